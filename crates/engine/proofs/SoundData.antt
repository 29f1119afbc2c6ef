-- The data that files give are within their limits.
use Rattle.std.proofs.Common.{◌≡◌, ℕ, zero, suc, ◌+◌, ◌*◌, ◌<◌, pos, Bool, List, [], ◌∷◌, Option, Some, None, Result, Ok, Err, get_or, refl, arith, inl, inr, subst, rules, lit<, lit≤}
use Rattle.std.specs.Prelude.{IfSome}
use Rattle.std.specs.List.{All, AllByRecursion, find}
use Rattle.std.specs.Option.{option_map}
use Rattle.std.proofs.lemmas.Bool.{cases_Bool}
use Rattle.std.proofs.lemmas.List.Elements.{All-nil}
use Rattle.mz_base.specs.Data.{AreDataSound, AreTextsShort, DataLists, IsCost, IsJoinSound, IsNode, IsRuleShort, IsShort, IsValueShort, class_place, connection, is_text, join_at, no_join, no_unknown, no_word, pos_of, unknown_of, word_at}
use Rattle.mz_base.specs.Kana.{AreRules}
use Rattle.mz_base.specs.Lines.{lines_of}
use Rattle.mz_base.specs.declared.data.IdRow.{IdRow}
use Rattle.mz_base.specs.declared.data.JoinRow.{JoinRow}
use Rattle.mz_base.specs.declared.data.PosRow.{PosRow}
use Rattle.mz_base.specs.declared.data.UnknownRow.{UnknownRow}
use Rattle.mz_base.specs.declared.data.ValueRow.{ValueRow}
use Rattle.mz_base.specs.declared.data.WordRow.{WordRow}
use Rattle.mz_base.specs.declared.fault.Fault.{Fault}
use Rattle.mz_base.specs.declared.fault.FaultKind.{FaultKind}
use Rattle.mz_base.specs.declared.fault.Role.{Role}
use Rattle.mz_base.specs.declared.fault.Role.TheVariants.{Connection, Id, Kanji, Segment, Symbol, Unk, UserPos, Romaji, Dictionary}
use Rattle.mz_base.specs.declared.romaji.Rule.{Rule}
use Rattle.mz_base.proofs.LimitLemmas.{IsCost-from_test}
use Rattle.conn_matrix.specs.Costs.{CostTable, IsTable, table_in}
use Rattle.conn_matrix.proofs.TableLemmas.{IsTable-read}
use Rattle.dict_rows.specs.Rows.{word_rows}
use Rattle.dict_rows.specs.Words.{AreWords}
use Rattle.dict_rows.proofs.RowLaws as rows
use Rattle.pos_table.specs.Classes.{no_node, nodes_of, unknown_rows}
use Rattle.pos_table.specs.Ids.{id_rows}
use Rattle.pos_table.specs.Nodes.{AreIds, AreNodes, ArePosNodes}
use Rattle.pos_table.specs.UserPos.{pos_rows}
use Rattle.pos_table.specs.Joins.{join_rows}
use Rattle.pos_table.proofs.JoinLemmas.{joins-sound}
use Rattle.pos_table.proofs.ShortTexts.{features-short, names-short, values-short}
use Rattle.pos_table.specs.Values.{value_rows}
use Rattle.romaji_table.proofs.ShortRules.{rules-short}
use Rattle.pos_table.proofs.NodeLemmas.{AreNodes-read}
use Rattle.pos_table.proofs.PosLemmas.{AreIds-read, ArePosNodes-read}
use Rattle.romaji_table.specs.Rows.{romaji_rows}
use Rattle.romaji_table.proofs.RuleLaws.{AreRules-read}
use Rattle.engine.specs.Sets.{bytes_of, costs_given, data_of, features_given, files_of, from_bytes, from_file, in_file, joins_given, kanji_given, names_given, one_id, rules_given, symbols_given, unknown_given, words_after, words_given}
use Rattle.engine.specs.declared.files.SetFile.{SetFile}
use Rattle.mz_base.proofs.AnswerLemmas.{part_gave}

-- what a file gave, its reader gave
pub in_file-Ok : {A : Type 0} (role : Role) (nth : ℕ) (read : Result A FaultKind) (value : A) → in_file role nth read ≡ Ok value → read ≡ Ok value
in_file-Ok role nth (Ok given) value is = let same : given ≡ value = cc in rw same refl
in_file-Ok role nth (Err kind) value is = absurd cc

bytes-have : {A : Type 0} (P : A → Type 0) (role : Role) (missing : A) (read : List ℕ → Result A FaultKind) (bytes : Option (List ℕ)) (value : A) → P missing → ((bytes : List ℕ) (value : A) → read bytes ≡ Ok value → P value) → from_bytes role missing read bytes ≡ Ok value → P value
bytes-have P role missing read None value stands each given =
    let same : missing ≡ value = cc in subst P same stands
bytes-have P role missing read (Some bytes) value stands each given =
    each bytes value (in_file-Ok role 1 (read bytes) value given)

-- what stands in for a missing file has, and what a reader gives, the given value has
file-has : {A : Type 0} (P : A → Type 0) (role : Role) (missing : A) (read : List ℕ → Result A FaultKind) (files : List SetFile) (value : A) → P missing → ((bytes : List ℕ) (value : A) → read bytes ≡ Ok value → P value) → from_file role missing read files ≡ Ok value → P value
file-has P role missing read files value stands each given =
    bytes-have P role missing read (bytes_of role files) value stands each given

-- each element has it, and what stands past the end
element-has : {A : Type 0} (P : A → Type 0) (default : A) → P default → (xs : List A) → AllByRecursion P xs → (i : ℕ) → P (get_or xs i default)
element-has P default stands [] all i = stands
element-has P default stands (x ∷ xs) all zero = all.0
element-has P default stands (x ∷ xs) all (suc i) = element-has P default stands xs all.1 i

no_cost : IsCost (pos 0)
no_cost = IsCost-from_test (pos 0) refl

IsTable-one_id : IsTable one_id
IsTable-one_id = record {
  some = lit< tt;
  square = record { few = lit≤ tt; whole = refl };
  small = λ r l right left. element-has IsCost (pos 0) no_cost one_id.costs (no_cost, tt) (r * one_id.size + l);
}

no_node-IsNode : (ids : ℕ) → 0 < ids → IsNode ids (no_node.id, no_node.cost)
no_node-IsNode ids some =
    record { id = omega (arith, some); cost = IsCost-from_test no_node.cost refl }

AreNodes-none : (ids : ℕ) → 0 < ids → AreNodes ids (nodes_of [])
AreNodes-none ids some =
    let node = no_node-IsNode ids some in (node, (node, (node, (node, (node, tt)))))

AreWords-none : (ids : ℕ) → AreWords ids []
AreWords-none ids = record { sound = All-nil _; few = omega arith; homophones = λ reading. omega arith }

-- the words of all files
words-AreWords : (ids : ℕ) (words : List WordRow) (nth : ℕ) (files : List SetFile) (all : List WordRow) → AreWords ids words → words_after ids words nth files ≡ Ok all → AreWords ids all
words-AreWords ids words nth [] all are given =
    let same : words ≡ all = cc in subst (AreWords ids) same are
words-AreWords ids words nth (file ∷ files) all are given =
    let (more, read, rest) = part_gave (in_file Dictionary nth (word_rows ids words file.bytes)) (λ more. words_after ids more (nth + 1) files) all given in
    words-AreWords ids more (nth + 1) files all (rows.words_after ids words 1 (lines_of file.bytes) more are (in_file-Ok Dictionary nth (word_rows ids words file.bytes) more read)) rest

found-IsNode : (ids : ℕ) (p : PosRow → Bool) (names : List PosRow) → ArePosNodes ids names → IfSome (option_map (λ (row : PosRow). (row.id, row.cost)) (find p names)) (IsNode ids)
found-IsNode ids p [] are = tt
found-IsNode ids p (row ∷ names) are =
    elim (cases_Bool (p row)) [
      | inl is ↦ rw is are.0
      | inr other ↦ rw other (found-IsNode ids p names are.1)
    ]

-- data of such parts
made-sound : (table : CostTable) (features : List IdRow) (unknown : List UnknownRow) (joins : List JoinRow) (names : List PosRow) (rules : List Rule) (words : List WordRow) (symbols kanji : List ValueRow) → IsTable table → AreNodes table.size unknown → ArePosNodes table.size names → AreRules rules → AreWords table.size words → All (IsJoinSound table.size) joins → AreTextsShort (record { ids = table.size; costs = table.costs; features = features; unknown = unknown; joins = joins; pos = names; rules = rules; words = words; symbols = symbols; kanji = kanji }) → AreDataSound (record { ids = table.size; costs = table.costs; features = features; unknown = unknown; joins = joins; pos = names; rules = rules; words = words; symbols = symbols; kanji = kanji })
unfolding connection unknown_of pos_of word_at join_at
made-sound table features unknown joins names rules words symbols kanji is nodes parts are_rules are_words are_joins are_short =
    record {
      some_ids = is.some;
      few_ids = is.square.few;
      few_words = are_words.few;
      connections = is.small;
      classes = λ class. element-has (λ (row : UnknownRow). IsNode table.size (row.id, row.cost)) no_unknown (record { id = is.some; cost = no_cost }) unknown nodes (class_place class);
      parts = λ name. found-IsNode table.size (λ (row : PosRow). is_text name row.name) names parts;
      words = λ i inside. are_words.sound i no_word inside;
      homophones = are_words.homophones;
      segments = λ i inside. are_joins i no_join inside;
      texts = are_short;
      rules_sound = are_rules;
    }

-- what is given is sound where it is this
given-sound : (lists : DataLists) (answer : Result DataLists Fault) (given : DataLists) → answer ≡ Ok lists → answer ≡ Ok given → AreDataSound lists → AreDataSound given
given-sound lists answer given is other sound =
    let same : lists ≡ given = cc in subst AreDataSound same sound

pub AreDataSound-given : (files : List SetFile) (given : DataLists) → data_of files ≡ Ok given → AreDataSound given
unfolding data_of
AreDataSound-given files given is =
    let (table, table_is, after_table) = part_gave (costs_given files) _ given is in
    let (features, features_is, after_features) = part_gave (features_given table.size files) _ given after_table in
    let (unknown, unknown_is, after_unknown) = part_gave (unknown_given table.size files) _ given after_features in
    let (joins, joins_is, after_joins) = part_gave (joins_given table.size files) _ given after_unknown in
    let (names, names_is, after_names) = part_gave (names_given features files) _ given after_joins in
    let (rules, rules_is, after_rules) = part_gave (rules_given files) _ given after_names in
    let (words, words_is, after_words) = part_gave (words_given table.size files) _ given after_rules in
    let (symbols, symbols_is, after_symbols) = part_gave (symbols_given files) _ given after_words in
    let (kanji, kanji_is, after_kanji) = part_gave (kanji_given files) _ given after_symbols in
    let square = file-has IsTable Connection one_id (λ bytes. table_in (lines_of bytes)) files table IsTable-one_id (λ bytes. IsTable-read (lines_of bytes)) table_is in
    let nodes = file-has (AreNodes table.size) Unk (nodes_of []) (unknown_rows table.size) files unknown (AreNodes-none table.size square.some) (λ bytes rows. AreNodes-read table.size bytes rows square.some) unknown_is in
    let are_ids = file-has (AreIds table.size) Id [] (id_rows table.size) files features tt (AreIds-read table.size) features_is in
    let parts = file-has (ArePosNodes table.size) UserPos [] (pos_rows features) files names tt (λ bytes rows. ArePosNodes-read table.size features bytes rows are_ids) names_is in
    let are_rules = file-has AreRules Romaji [] romaji_rows files rules (record { each = tt; distinct = tt }) AreRules-read rules_is in
    let are_words = words-AreWords table.size [] 1 (files_of Dictionary files) words (AreWords-none table.size) words_is in
    let are_joins = file-has (All (IsJoinSound table.size)) Segment [] (join_rows table.size) files joins (All-nil (IsJoinSound table.size)) (joins-sound table.size) joins_is in
    let are_short : AreTextsShort (record { ids = table.size; costs = table.costs; features = features; unknown = unknown; joins = joins; pos = names; rules = rules; words = words; symbols = symbols; kanji = kanji }) = record {
      features = file-has (All (λ (row : IdRow). IsShort row.feature)) Id [] (id_rows table.size) files features (All-nil _) (features-short table.size) features_is;
      parts = file-has (All (λ (row : PosRow). IsShort row.name)) UserPos [] (pos_rows features) files names (All-nil _) (names-short features) names_is;
      rules = file-has (All IsRuleShort) Romaji [] romaji_rows files rules (All-nil _) rules-short rules_is;
      symbols = file-has (All IsValueShort) Symbol [] value_rows files symbols (All-nil _) values-short symbols_is;
      kanji = file-has (All IsValueShort) Kanji [] value_rows files kanji (All-nil _) values-short kanji_is;
    } in
    given-sound (record { ids = table.size; costs = table.costs; features = features; unknown = unknown; joins = joins; pos = names; rules = rules; words = words; symbols = symbols; kanji = kanji }) _ given refl after_kanji (made-sound table features unknown joins names rules words symbols kanji square nodes parts are_rules are_words are_joins are_short)
