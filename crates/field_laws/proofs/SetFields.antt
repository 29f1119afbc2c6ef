-- The texts of a data set are fields of a report.
use Rattle.std.proofs.Common.{◌≡◌, ℕ, ◌+◌, Bool, true, false, ◌||◌, eqb, nat_le, if◌then◌else◌, List, [], ◌∷◌, ◌++◌, length, Option, Some, None, Result, Ok, Err, option_to_list, refl, subst, inl, inr}
use Rattle.std.specs.List.{All, AllByRecursion}
use Rattle.std.specs.Str.{chars, is_utf8}
use Rattle.std.proofs.lemmas.Bool.{cases_Bool}
use Rattle.std.proofs.lemmas.List.Elements.{All-append, All-cons, All-nil, All-from_recursion, recursion_from_All}
use Rattle.std.proofs.lemmas.List.Sorted.{All-permutation}
use Rattle.mz_base.specs.Answers.{◌>>=◌}
use Rattle.mz_base.specs.Data.{DataLists}
use Rattle.mz_base.specs.Lines.{fields_of, lines_of}
use Rattle.mz_base.specs.Limits.{is_long}
use Rattle.mz_base.specs.Rows.{rows_after, table_row, table_rows}
use Rattle.mz_base.specs.declared.data.TheConstants.{MOST_ROWS}
use Rattle.mz_base.specs.declared.data.ValueRow.{ValueRow}
use Rattle.mz_base.specs.declared.data.WordRow.{WordRow}
use Rattle.mz_base.specs.declared.fault.Fault.{Fault}
use Rattle.mz_base.specs.declared.fault.FaultKind.{FaultKind}
use Rattle.mz_base.specs.declared.fault.FaultKind.TheVariants.{Empty, Limit, LongPending, NotUtf8, Range}
use Rattle.mz_base.specs.declared.fault.Role.{Role}
use Rattle.mz_base.specs.declared.fault.Role.TheVariants.{Dictionary, Kanji, Romaji, Symbol}
use Rattle.mz_base.specs.declared.romaji.Rule.{Rule}
use Rattle.mz_base.proofs.AnswerLemmas.{part_gave}
use Rattle.mz_base.proofs.ByNameLemmas.{latest-All, latest_by_name-same}
use Rattle.dict_rows.specs.Rows as words
use Rattle.pos_table.specs.Values.{ValueFields, fields_value, value_fields, value_in, value_rows}
use Rattle.romaji_table.specs.Inputs.{input_of, latest_by_input, same_input}
use Rattle.romaji_table.specs.Rows as rules
use Rattle.engine.specs.Sets.{bytes_of, costs_given, data_of, features_given, from_bytes, from_file, in_file, joins_given, kanji_given, names_given, rules_given, symbols_given, unknown_given, words_after, words_given}
use Rattle.engine.specs.declared.files.SetFile.{SetFile}
use Rattle.engine.proofs.SoundData.{in_file-Ok}
use Rattle.session_meaning.specs.Fields.{AreListsFields, IsField, IsRuleField}
use Rattle.field_laws.specs.FieldLaws.{SetsAreFields}
use Rattle.field_laws.proofs.FieldParts.{AreNoFeeds, IsPart, empty-part, fields-parts, lines-no_feeds, part-field}

-- ---- Rows line by line

-- each row has it, where each line without a line feed gives a row that has it
module _ {Row : Type 0} (P : Row → Type 0) (read : List Row → ℕ → List ℕ → Result (Option Row) FaultKind) (each : (rows : List Row) (number : ℕ) (line : List ℕ) (row : Option Row) → AreNoFeeds line → read rows number line ≡ Ok row → All P (option_to_list row)) where
  rows-have : (rows : List Row) (number : ℕ) (lines : List (List ℕ)) (all : List Row) → AllByRecursion AreNoFeeds lines → All P rows → rows_after read rows number lines ≡ Ok all → All P all
  rows-have rows number [] all plain before is =
      let same : rows ≡ all = cc in subst (All P) same before
  rows-have rows number (line ∷ lines) all plain before is =
      let (row, given, rest) = part_gave (read rows number line) (λ row. rows_after read (rows ++ option_to_list row) (number + 1) lines) all is in
      rows-have (rows ++ option_to_list row) (number + 1) lines all plain.1 (All-append P rows (option_to_list row) before (each rows number line row plain.0 given)) rest

  pub file-rows_have : (before : List Row) (bytes : List ℕ) (all : List Row) → All P before → rows_after read before 1 (lines_of bytes) ≡ Ok all → All P all
  file-rows_have before bytes all had is =
      rows-have before 1 (lines_of bytes) all (lines-no_feeds bytes) had is

abbrev read_as : {Row : Type 0} → Option Row → Result (Option Row) FaultKind
read_as row = Ok row

none-has : {Row : Type 0} (P : Row → Type 0) (row : Option Row) → read_as None ≡ Ok row → All P (option_to_list row)
none-has P row is = let same : None ≡ row = cc in subst (λ row. All P (option_to_list row)) same (All-nil P)

one-has : {Row : Type 0} (P : Row → Type 0) (made : Row) (row : Option Row) → P made → read_as (Some made) ≡ Ok row → All P (option_to_list row)
one-has P made row has is =
    let same : Some made ≡ row = cc in
    subst (λ row. All P (option_to_list row)) same (All-cons P made [] has (All-nil P))

-- ---- Words

abbrev IsWordField : WordRow → Type 0
IsWordField row = IsField row.value

abbrev AreWordParts : Option words.RowFields → Type 0
AreWordParts None = Unit {0}
AreWordParts (Some row) = IsPart row.value

word-parts : (fields : List (List ℕ)) → AllByRecursion IsPart fields → AreWordParts (words.row_fields fields)
word-parts [] all = tt
word-parts (a ∷ []) all = tt
word-parts (a ∷ b ∷ []) all = tt
word-parts (a ∷ b ∷ c ∷ []) all = tt
word-parts (a ∷ b ∷ c ∷ d ∷ []) all = tt
word-parts (a ∷ b ∷ c ∷ d ∷ value ∷ more) all = all.1.1.1.1.0

word-limits : (rows : List WordRow) (number : ℕ) (fields : words.RowFields) (numbers : words.RowNumbers) (row : Option WordRow) → IsPart fields.value → words.within_limits rows number fields numbers ≡ Ok row → All IsWordField (option_to_list row)
word-limits rows number fields numbers row part given =
    elim (cases_Bool (words.passes_limit rows fields)) [
      | inl passes ↦ let never : Err (Limit number) ≡ Ok row = rw passes at given in absurd cc
      | inr within ↦ one-has IsWordField (words.word_of fields numbers) row (part-field fields.value part) (rw within at given)
    ]

word-fields : (ids : ℕ) (rows : List WordRow) (number : ℕ) (fields : Option words.RowFields) (row : Option WordRow) → AreWordParts fields → words.fields_row ids rows number fields ≡ Ok row → All IsWordField (option_to_list row)
word-fields ids rows number None row parts given = absurd cc
word-fields ids rows number (Some fields) row parts given =
    let (numbers, read, rest) = part_gave (words.numbers_in ids number fields) (words.within_limits rows number fields) row given in
    word-limits rows number fields numbers row parts rest

word-line : (ids : ℕ) (rows : List WordRow) (number : ℕ) (line : List ℕ) (row : Option WordRow) → AreNoFeeds line → words.word_row ids rows number line ≡ Ok row → All IsWordField (option_to_list row)
unfolding words.word_row
word-line ids rows number line row plain given =
    elim (cases_Bool (is_utf8 line)) [
      | inl text ↦ elim (cases_Bool (eqb (length line) 0)) [
        | inl empty ↦ none-has IsWordField row (rw (text, empty) at given)
        | inr some ↦ word-fields ids rows number (words.row_fields (fields_of line)) row (word-parts (fields_of line) (fields-parts line text plain)) (rw (text, some) at given)
      ]
      | inr bytes ↦ let never : Err (NotUtf8 number) ≡ Ok row = rw bytes at given in absurd cc
    ]

words-are : (ids : ℕ) (rows : List WordRow) (nth : ℕ) (files : List SetFile) (all : List WordRow) → All IsWordField rows → words_after ids rows nth files ≡ Ok all → All IsWordField all
words-are ids rows nth [] all are given = let same : rows ≡ all = cc in subst (All IsWordField) same are
words-are ids rows nth (file ∷ files) all are given =
    let (more, read, rest) = part_gave (in_file Dictionary nth (words.word_rows ids rows file.bytes)) (λ more. words_after ids more (nth + 1) files) all given in
    words-are ids more (nth + 1) files all (file-rows_have IsWordField (words.word_row ids) (word-line ids) rows file.bytes more are (in_file-Ok Dictionary nth (words.word_rows ids rows file.bytes) more read)) rest

-- ---- Symbols and kanji

abbrev IsValueField : ValueRow → Type 0
IsValueField row = IsField row.value

abbrev AreValueParts : Option ValueFields → Type 0
AreValueParts None = Unit {0}
AreValueParts (Some row) = IsPart row.value

value-parts : (fields : List (List ℕ)) → AllByRecursion IsPart fields → AreValueParts (value_fields fields)
value-parts [] all = tt
value-parts (a ∷ []) all = tt
value-parts (a ∷ value ∷ more) all = all.1.0

value-has : (number : ℕ) (fields : Option ValueFields) (row : ValueRow) → AreValueParts fields → fields_value number fields ≡ Ok row → IsValueField row
value-has number None row parts given = absurd cc
value-has number (Some fields) row parts given =
    elim (cases_Bool (eqb (length fields.reading) 0 || eqb (length fields.value) 0)) [
      | inl empty ↦ let never : Err (Empty number) ≡ Ok row = rw empty at given in absurd cc
      | inr filled ↦ elim (cases_Bool (is_long fields.reading || is_long fields.value)) [
        | inl long ↦ let never : Err (Limit number) ≡ Ok row = rw (filled, long) at given in absurd cc
        | inr short ↦
            let made : ValueRow = record { reading = chars fields.reading; value = chars fields.value } in
            let here : Ok made ≡ Ok row = rw (filled, short) at given in
            let same : made ≡ row = cc in
            subst IsValueField same (part-field fields.value parts)
      ]
    ]

kept-has : (rows : List ValueRow) (number : ℕ) (found : Result ValueRow FaultKind) (row : Option ValueRow) → ((kept : ValueRow) → found ≡ Ok kept → IsValueField kept) → (found >>= (λ kept. if nat_le MOST_ROWS (length rows) then Err (Limit number) else Ok (Some kept))) ≡ Ok row → All IsValueField (option_to_list row)
kept-has rows number (Err kind) row has given = absurd cc
kept-has rows number (Ok kept) row has given =
    elim (cases_Bool (nat_le MOST_ROWS (length rows))) [
      | inl many ↦ let never : Err (Limit number) ≡ Ok row = rw many at given in absurd cc
      | inr few ↦ one-has IsValueField kept row (has kept refl) (rw few at given)
    ]

value-line : (rows : List ValueRow) (number : ℕ) (line : List ℕ) (row : Option ValueRow) → AreNoFeeds line → table_row value_in rows number line ≡ Ok row → All IsValueField (option_to_list row)
unfolding table_row
value-line rows number line row plain given =
    elim (cases_Bool (is_utf8 line)) [
      | inl text ↦ elim (cases_Bool (eqb (length line) 0)) [
        | inl empty ↦ none-has IsValueField row (rw (text, empty) at given)
        | inr some ↦ kept-has rows number (value_in number line) row (λ kept. value-has number (value_fields (fields_of line)) kept (value-parts (fields_of line) (fields-parts line text plain))) (rw (text, some) at given)
      ]
      | inr bytes ↦ let never : Err (NotUtf8 number) ≡ Ok row = rw bytes at given in absurd cc
    ]

values-are : (bytes : List ℕ) (rows : List ValueRow) → value_rows bytes ≡ Ok rows → All IsValueField rows
values-are bytes rows given =
    file-rows_have IsValueField (table_row value_in) value-line [] bytes rows (All-nil IsValueField) given

-- ---- Romaji

abbrev AreRuleParts : Option rules.RowFields → Type 0
AreRuleParts None = Unit {0}
AreRuleParts (Some row) = IsPart row.output × IsPart row.pending

rule-parts : (fields : List (List ℕ)) → AllByRecursion IsPart fields → AreRuleParts (rules.row_fields fields)
rule-parts [] all = tt
rule-parts (input ∷ []) all = tt
rule-parts (input ∷ output ∷ []) all = (all.1.0, empty-part)
rule-parts (input ∷ output ∷ pending ∷ []) all = (all.1.0, all.1.1.0)
rule-parts (input ∷ output ∷ pending ∷ more ∷ fields) all = tt

rule-fields : (rows number : ℕ) (fields : Option rules.RowFields) (rule : Option Rule) → AreRuleParts fields → rules.fields_row rows number fields ≡ Ok rule → All IsRuleField (option_to_list rule)
rule-fields rows number None rule parts given = absurd cc
rule-fields rows number (Some row) rule parts given =
    elim (cases_Bool (eqb (length row.input) 0)) [
      | inl empty ↦ let never : Err (Empty number) ≡ Ok rule = rw empty at given in absurd cc
      | inr filled ↦ elim (cases_Bool (nat_le (length (chars row.input)) (length (chars row.pending)))) [
        | inl long ↦ let never : Err (LongPending number) ≡ Ok rule = rw (filled, long) at given in absurd cc
        | inr shorter ↦ elim (cases_Bool (rules.passes_limit rows row)) [
          | inl passes ↦ let never : Err (Limit number) ≡ Ok rule = rw (filled, shorter, passes) at given in absurd cc
          | inr within ↦ one-has IsRuleField (rules.rule_of row) rule (record { output = part-field row.output parts.0; pending = part-field row.pending parts.1 }) (rw (filled, shorter, within) at given)
        ]
      ]
    ]

rule-line : (rows : List Rule) (number : ℕ) (line : List ℕ) (rule : Option Rule) → AreNoFeeds line → rules.romaji_row rows number line ≡ Ok rule → All IsRuleField (option_to_list rule)
rule-line rows number line rule plain given =
    elim (cases_Bool (is_utf8 line)) [
      | inl text ↦ elim (cases_Bool (rules.is_comment line)) [
        | inl skipped ↦ none-has IsRuleField rule (rw (text, skipped) at given)
        | inr row ↦ rule-fields (length rows) number (rules.row_fields (fields_of line)) rule (rule-parts (fields_of line) (fields-parts line text plain)) (rw (text, row) at given)
      ]
      | inr bytes ↦ let never : Err (NotUtf8 number) ≡ Ok rule = rw bytes at given in absurd cc
    ]

rules-are : (bytes : List ℕ) (all : List Rule) → rules.romaji_rows bytes ≡ Ok all → All IsRuleField all
rules-are bytes all given =
    let (rows, read, kept) = part_gave (rules.line_rules bytes) (λ rows. Ok (latest_by_input rows)) all given in
    let same : latest_by_input rows ≡ all = cc in
    let each : All IsRuleField rows = file-rows_have IsRuleField rules.romaji_row rule-line [] bytes rows (All-nil IsRuleField) read in
    let latest = latest-All IsRuleField same_input rows (recursion_from_All IsRuleField rows each) in
    subst (All IsRuleField) same (All-permutation IsRuleField _ _ (latest_by_name-same input_of rows) (All-from_recursion IsRuleField _ latest))

-- ---- The files of a set

bytes-have : {A : Type 0} (P : A → Type 0) (role : Role) (missing : A) (read : List ℕ → Result A FaultKind) (bytes : Option (List ℕ)) (value : A) → P missing → ((bytes : List ℕ) (value : A) → read bytes ≡ Ok value → P value) → from_bytes role missing read bytes ≡ Ok value → P value
bytes-have P role missing read None value stands each given =
    let same : missing ≡ value = cc in subst P same stands
bytes-have P role missing read (Some bytes) value stands each given =
    each bytes value (in_file-Ok role 1 (read bytes) value given)

same-fields : (lists given : DataLists) (answer : Result DataLists Fault) → answer ≡ Ok lists → answer ≡ Ok given → AreListsFields lists → AreListsFields given
same-fields lists given answer is other fields =
    let same : lists ≡ given = cc in subst AreListsFields same fields

pub sets-are_fields : SetsAreFields
unfolding data_of
sets-are_fields files given is =
    let (table, table_is, after_table) = part_gave (costs_given files) _ given is in
    let (features, features_is, after_features) = part_gave (features_given table.size files) _ given after_table in
    let (unknown, unknown_is, after_unknown) = part_gave (unknown_given table.size files) _ given after_features in
    let (joins, joins_is, after_joins) = part_gave (joins_given table.size files) _ given after_unknown in
    let (names, names_is, after_names) = part_gave (names_given features files) _ given after_joins in
    let (rows, rules_is, after_rules) = part_gave (rules_given files) _ given after_names in
    let (all, words_is, after_words) = part_gave (words_given table.size files) _ given after_rules in
    let (symbols, symbols_is, after_symbols) = part_gave (symbols_given files) _ given after_words in
    let (kanji, kanji_is, after_kanji) = part_gave (kanji_given files) _ given after_symbols in
    let made : DataLists = record { ids = table.size; costs = table.costs; features = features; unknown = unknown; joins = joins; pos = names; rules = rows; words = all; symbols = symbols; kanji = kanji } in
    same-fields made given (Ok made) refl after_kanji (record {
      rules = bytes-have (All IsRuleField) Romaji [] rules.romaji_rows (bytes_of Romaji files) rows (All-nil IsRuleField) rules-are rules_is;
      words = words-are table.size [] 1 _ all (All-nil IsWordField) words_is;
      symbols = bytes-have (All IsValueField) Symbol [] value_rows (bytes_of Symbol files) symbols (All-nil IsValueField) values-are symbols_is;
      kanji = bytes-have (All IsValueField) Kanji [] value_rows (bytes_of Kanji files) kanji (All-nil IsValueField) values-are kanji_is;
    })
