-- The data set of the examples is within its limits.
use Rattle.std.proofs.Common.{◌≡◌, refl, ℕ, zero, suc, ◌+◌, ◌*◌, ◌<◌, ◌≤◌, ℤ, pos, Bool, true, false, cond, ◌&&◌, List, [], ◌∷◌, length, get_or, arith, rules, lit<, lit≤}
use Rattle.std.specs.Prelude.{IfSome, Some, None, nat_lt, nat_le, encode_utf8_all}
use Rattle.std.specs.List.{All, list_all}
use Rattle.std.specs.Option.{option_map}
use Rattle.std.proofs.lemmas.Bool.{leb-true}
use Rattle.std.proofs.lemmas.Bool.Decides.{nat_tests}
use Rattle.std.proofs.lemmas.List.Elements.{All-cons, All-nil}
use Rattle.std.proofs.lemmas.List.Sums.{count_by-le-length}
use Rattle.mz_base.specs.Data.{AreDataSound, AreTextsShort, IsCost, IsJoinSound, IsNode, IsShort, IsWordSound, connection, is_text, join_at, pos_of, times_in, unknown_of, word_at}
use Rattle.mz_base.specs.Limits.{is_cost}
use Rattle.mz_base.specs.declared.data.Class.{Class}
use Rattle.mz_base.specs.declared.data.Class.TheVariants.{Hiragana, Katakana, Digit, Letter, Other}
use Rattle.mz_base.specs.declared.data.PosRow.{PosRow}
use Rattle.mz_base.specs.declared.data.TheConstants.{MOST_HOMOPHONES, MOST_FIELD_BYTES}
use Rattle.mz_base.specs.declared.data.WordRow.{WordRow}
use Rattle.mz_base.proofs.LimitLemmas.{IsCost-from_test}
use Rattle.conversion_meaning.specs.Examples.{noun, set, suppressed_part}

both : (a b : Bool) → (a && b) ≡ true → (a ≡ true) × (b ≡ true)
both true b h = (refl, h)
both false b h = absurd (let clash : false ≡ true = h in cc)

-- what all elements pass, and the default, passes at each place
passes_at : {X : Type 0} (p : X → Bool) (d : X) (xs : List X) (i : ℕ) → list_all p xs ≡ true → p d ≡ true → p (get_or xs i d) ≡ true
passes_at p d [] i all default = default
passes_at p d (x ∷ xs) zero all default = (both (p x) (list_all p xs) all).0
passes_at p d (x ∷ xs) (suc i) all default =
    passes_at p d xs i (both (p x) (list_all p xs) all).1 default

costs_small : (r l : ℕ) → IsCost (connection set r l)
unfolding connection
costs_small r l =
    IsCost-from_test _ (passes_at is_cost (pos 0) set.costs (r * set.ids + l) refl refl)

node_small : (id : ℕ) (cost : ℤ) → id < 3 → is_cost cost ≡ true → IsNode 3 (id, cost)
node_small id cost below is = record { id = below; cost = IsCost-from_test cost is }

classes_small : (class : Class) → IsNode 3 (unknown_of set class)
unfolding unknown_of
classes_small Hiragana = node_small 1 (pos 5000) (lit< tt) refl
classes_small Katakana = node_small 1 (pos 6000) (lit< tt) refl
classes_small Digit = node_small 1 (pos 6000) (lit< tt) refl
classes_small Letter = node_small 1 (pos 6000) (lit< tt) refl
classes_small Other = node_small 1 (pos 6000) (lit< tt) refl

parts_small : (name : List ℕ) → IfSome (pos_of set name) (IsNode 3)
unfolding pos_of
parts_small name = by_tests (is_text name noun.name) (is_text name suppressed_part.name)
  where
    by_tests : (a b : Bool) → IfSome (option_map (λ (row : PosRow). (row.id, row.cost)) (cond a (Some noun) (cond b (Some suppressed_part) None))) (IsNode 3)
    by_tests true b = node_small 1 (pos 100) (lit< tt) refl
    by_tests false true = node_small 2 (pos 200) (lit< tt) refl
    by_tests false false = search rules

abbrev is_short : List ℕ → Bool
is_short text = nat_le (length (encode_utf8_all text)) MOST_FIELD_BYTES

-- a row's limits as a test
abbrev is_word : WordRow → Bool
is_word row =
    ((nat_lt 0 (length row.reading) && nat_lt 0 (length row.value)) && ((nat_lt row.lid 3 && nat_lt row.rid 3) && is_cost row.cost)) && (is_short row.reading && is_short row.value)

IsWordSound-from_test : (row : WordRow) → is_word row ≡ true → IsWordSound 3 row
IsWordSound-from_test row is =
    let parts = both _ (is_short row.reading && is_short row.value) is in
    let short = both (is_short row.reading) (is_short row.value) parts.1 in
    let a = both (nat_lt 0 (length row.reading) && nat_lt 0 (length row.value)) _ parts.0 in
    let texts = both (nat_lt 0 (length row.reading)) _ a.0 in
    let b = both (nat_lt row.lid 3 && nat_lt row.rid 3) (is_cost row.cost) a.1 in
    let ids = both (nat_lt row.lid 3) _ b.0 in
    record {
      read = below 0 _ texts.0;
      left = below row.lid 3 ids.0;
      right = below row.rid 3 ids.1;
      cost = IsCost-from_test row.cost b.1;
      valued = below 0 _ texts.1;
      short_reading = leb-true _ _ short.0;
      short_value = leb-true _ _ short.1;
    }
  where
    below : (a b : ℕ) → nat_lt a b ≡ true → a < b
    below a b is = grind (arith, nat_tests)

words_small : (i : ℕ) → i < 6 → IsWordSound 3 (word_at set i)
unfolding word_at lib.Utf8.encode
words_small zero inside = IsWordSound-from_test (word_at set 0) refl
words_small (suc zero) inside = IsWordSound-from_test (word_at set 1) refl
words_small (suc (suc zero)) inside = IsWordSound-from_test (word_at set 2) refl
words_small (suc (suc (suc zero))) inside = IsWordSound-from_test (word_at set 3) refl
words_small (suc (suc (suc (suc zero)))) inside = IsWordSound-from_test (word_at set 4) refl
words_small (suc (suc (suc (suc (suc zero))))) inside = IsWordSound-from_test (word_at set 5) refl
words_small (suc (suc (suc (suc (suc (suc i)))))) inside = absurd (omega arith)

-- six words have no more than six of one reading
few_of : (reading : List ℕ) → times_in set.words reading ≤ MOST_HOMOPHONES
few_of reading =
    let few : times_in set.words reading ≤ 6 = count_by-le-length (λ (row : WordRow). is_text reading row.reading) set.words in
    omega (arith, few)

joins_small : (i : ℕ) → i < 1 → IsJoinSound 3 (join_at set i)
unfolding join_at
joins_small zero inside = record { right = lit≤ tt; last_right = lit< tt; left = lit≤ tt; last_left = lit< tt }
joins_small (suc i) inside = absurd (omega arith)

name_short : (name : List ℕ) → is_short name ≡ true → IsShort name
name_short name is = leb-true _ _ is

parts_short : All (λ (row : PosRow). IsShort row.name) set.pos
unfolding lib.Utf8.encode
parts_short =
    let P : PosRow → Type 0 = λ row. IsShort row.name in
    All-cons P noun (suppressed_part ∷ []) (name_short noun.name refl) (All-cons P suppressed_part [] (name_short suppressed_part.name refl) (All-nil P))

texts_short : AreTextsShort set
texts_short = record {
  features = All-nil _;
  parts = parts_short;
  rules = All-nil _;
  symbols = All-nil _;
  kanji = All-nil _;
}

pub AreDataSound-set : AreDataSound set
AreDataSound-set =
    record {
      some_ids = lit< tt;
      few_ids = lit≤ tt;
      few_words = lit≤ tt;
      connections = λ r l right left. costs_small r l;
      classes = classes_small;
      parts = parts_small;
      words = words_small;
      homophones = few_of;
      segments = joins_small;
      texts = texts_short;
      rules_sound = record { each = tt; distinct = search rules };
    }
