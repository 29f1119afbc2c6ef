-- The characters of a field of a line are fields of a report.
use Rattle.std.proofs.Common.{◌≡◌, ◌≢◌, ℕ, zero, suc, ◌-◌, Bool, true, false, eqb, List, [], ◌∷◌, ◌++◌, length, map, take, if◌then◌else◌, slice_index, slice_index_or, get_or, refl, sym, subst, ap, inl, inr, encode_utf8, encode_utf8_all}
use Rattle.std.specs.List.{All, AllByRecursion, onto_first, slice_split, starts_with}
use Rattle.std.specs.Str.{chars, is_utf8, IsUtf8}
use Rattle.std.specs.Str.Lines.{strip_carriage_return}
use Rattle.std.proofs.lemmas.Bool.{cases_Bool}
use Rattle.std.proofs.lemmas.List.Splits.{slice_split-cons_no, slice_split-cons_yes, slice_split_none}
use Rattle.std.proofs.lemmas.List.Elements.{All-nil, All-from_recursion}
use Rattle.std.proofs.lemmas.Str.{IsUtf8-nil, encodes-chars}
use Rattle.mz_base.specs.Lines.{fields_of, lines_in, lines_of, without_last_feed, without_mark}
use Rattle.mz_base.proofs.TextFields.{fields-utf8}
use Rattle.session_meaning.specs.Fields.{IsField, IsFieldCharacter}

-- ---- Parts

module _ (Before After : ℕ → Type 0) (p : ℕ → Bool) (kept : (b : ℕ) → Before b → p b ≡ false → After b) where
  with_first : (b : ℕ) (parts : List (List ℕ)) → After b → AllByRecursion (AllByRecursion After) parts → AllByRecursion (AllByRecursion After) (onto_first b parts)
  with_first b [] first all = ((first, tt), tt)
  with_first b (part ∷ parts) first all = ((first, all.0), all.1)

  -- what is cut at some bytes has none of them
  pub parts-All : (bytes : List ℕ) → AllByRecursion Before bytes → AllByRecursion (AllByRecursion After) (slice_split p bytes)
  parts-All [] all =
      subst (AllByRecursion (AllByRecursion After)) (sym (slice_split_none p [] (All-nil (λ b. p b ≡ false)))) (tt, tt)
  parts-All (b ∷ bytes) all =
      elim (cases_Bool (p b)) [
        | inl cut ↦ subst (AllByRecursion (AllByRecursion After)) (sym (slice_split-cons_yes p b bytes cut)) (tt, parts-All bytes all.1)
        | inr other ↦ subst (AllByRecursion (AllByRecursion After)) (sym (slice_split-cons_no p b bytes other)) (with_first b (slice_split p bytes) (kept b all.0 other) (parts-All bytes all.1))
      ]

-- ---- Lines

abbrev pub IsNoFeed : ℕ → Type 0
IsNoFeed b = eqb b 10 ≡ false

abbrev pub AreNoFeeds : List ℕ → Type 0
AreNoFeeds line = AllByRecursion IsNoFeed line

any-bytes : (bytes : List ℕ) → AllByRecursion (λ b. Unit {0}) bytes
any-bytes [] = tt
any-bytes (b ∷ bytes) = (tt, any-bytes bytes)

All-take : {A : Type 0} (P : A → Type 0) (n : ℕ) (xs : List A) → AllByRecursion P xs → AllByRecursion P (take n xs)
All-take P zero xs all = tt
All-take P (suc n) [] all = tt
All-take P (suc n) (x ∷ xs) all = (all.0, All-take P n xs all.1)

stripped : (line : List ℕ) → AreNoFeeds line → AreNoFeeds (strip_carriage_return line)
stripped line all =
    by_test (eqb (slice_index line (length line - 1)) 13)
  where
    by_test : (b : Bool) → AreNoFeeds (if b then take (length line - 1) line else line)
    by_test true = All-take IsNoFeed (length line - 1) line all
    by_test false = all

all-stripped : (lines : List (List ℕ)) → AllByRecursion AreNoFeeds lines → AllByRecursion AreNoFeeds (map strip_carriage_return lines)
all-stripped [] all = tt
all-stripped (line ∷ lines) all = (stripped line all.0, all-stripped lines all.1)

-- no line of a file has a line feed
pub lines-no_feeds : (bytes : List ℕ) → AllByRecursion AreNoFeeds (lines_of bytes)
unfolding lines_of lines_in
lines-no_feeds bytes =
    by_test (eqb (length (without_mark bytes)) 0)
  where
    by_test : (b : Bool) → AllByRecursion AreNoFeeds (if b then [] else lines_in (without_mark bytes))
    by_test true = tt
    by_test false =
        let text = without_last_feed (without_mark bytes) in
        all-stripped (slice_split (λ b. eqb b 10) text) (parts-All (λ b. Unit {0}) IsNoFeed (λ b. eqb b 10) (λ b here other. other) text (any-bytes text))

-- ---- Fields

abbrev pub IsFieldByte : ℕ → Type 0
IsFieldByte b = (eqb b 9 ≡ false) × (eqb b 10 ≡ false)

abbrev pub AreFieldBytes : List ℕ → Type 0
AreFieldBytes bytes = AllByRecursion IsFieldByte bytes

fields-bytes : (line : List ℕ) → AreNoFeeds line → AllByRecursion AreFieldBytes (fields_of line)
fields-bytes line all =
    parts-All IsNoFeed IsFieldByte (λ b. eqb b 9) (λ b feed other. (other, feed)) line all

All-behind : {A : Type 0} (P : A → Type 0) (xs ys : List A) → AllByRecursion P (xs ++ ys) → AllByRecursion P ys
All-behind P [] ys all = all
All-behind P (x ∷ xs) ys all = All-behind P xs ys all.1

-- a character that is a tab or a line feed is that byte
no_tab : (c : ℕ) (rest : List ℕ) → AreFieldBytes (encode_utf8 c ++ rest) → c ≢ 9
unfolding lib.Utf8.encode
no_tab c rest all is =
    let here : AreFieldBytes (encode_utf8 9 ++ rest) = subst (λ c. AreFieldBytes (encode_utf8 c ++ rest)) is all in
    let never : true ≡ false = here.0.0 in absurd cc

no_feed : (c : ℕ) (rest : List ℕ) → AreFieldBytes (encode_utf8 c ++ rest) → c ≢ 10
unfolding lib.Utf8.encode
no_feed c rest all is =
    let here : AreFieldBytes (encode_utf8 10 ++ rest) = subst (λ c. AreFieldBytes (encode_utf8 c ++ rest)) is all in
    let never : true ≡ false = here.0.1 in absurd cc

spelled-field : (letters : List ℕ) → AreFieldBytes (encode_utf8_all letters) → AllByRecursion IsFieldCharacter letters
spelled-field [] all = tt
spelled-field (c ∷ letters) all =
    ((no_tab c (encode_utf8_all letters) all, no_feed c (encode_utf8_all letters) all), spelled-field letters (All-behind IsFieldByte (encode_utf8 c) (encode_utf8_all letters) all))

-- what is known of a field of a line that is text
pub record IsPart (field : List ℕ) : Type 0 where
  pub text : IsUtf8 field
  pub bytes : AreFieldBytes field

both : (fields : List (List ℕ)) → AllByRecursion IsUtf8 fields → AllByRecursion AreFieldBytes fields → AllByRecursion IsPart fields
both [] texts bytes = tt
both (field ∷ fields) texts bytes =
    (record { text = texts.0; bytes = bytes.0 }, both fields texts.1 bytes.1)

pub fields-parts : (line : List ℕ) → is_utf8 line ≡ true → AreNoFeeds line → AllByRecursion IsPart (fields_of line)
fields-parts line text all = both (fields_of line) (fields-utf8 line text) (fields-bytes line all)

-- its characters are a field of a report
pub part-field : (field : List ℕ) → IsPart field → IsField (chars field)
part-field field part =
    let same : encode_utf8_all (chars field) ≡ field = encodes-chars field part.text in
    All-from_recursion IsFieldCharacter (chars field) (spelled-field (chars field) (subst AreFieldBytes (sym same) part.bytes))

pub empty-part : IsPart []
empty-part = record { text = IsUtf8-nil; bytes = tt }
