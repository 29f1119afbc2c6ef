-- What the rows of a dictionary file have.
use Rattle.std.proofs.Common.{◌≡◌, ℕ, ◌+◌, ◌<◌, ◌≤◌, Bool, true, false, ◌||◌, eqb, List, [], ◌∷◌, ◌++◌, Option, Some, None, Ok, Err, length, length-append, append-nil, option_to_list, refl, arith, inl, inr, subst}
use Rattle.std.proofs.lemmas.Slice.Eq.{bytes_eq-Decides}
use Rattle.std.specs.List.{AllByRecursion}
use Rattle.std.specs.Str.{is_utf8, IsUtf8}
use Rattle.std.proofs.lemmas.Bool.{cases_Bool}
use Rattle.std.proofs.lemmas.Bool.Decides.{nat_tests}
use Rattle.std.proofs.lemmas.List.Elements.{All-append, All-cons, All-nil}
use Rattle.mz_base.specs.Answers.{◌>>=◌}
use Rattle.mz_base.specs.Data.{IsWordSound, is_text, times_in}
use Rattle.mz_base.specs.Lines.{fields_of}
use Rattle.mz_base.specs.Rows.{rows_after}
use Rattle.mz_base.specs.declared.data.TheConstants.{MOST_WORDS, MOST_HOMOPHONES}
use Rattle.mz_base.specs.declared.data.WordRow.{WordRow}
use Rattle.mz_base.specs.declared.fault.FaultKind.TheVariants.{NotUtf8, Empty, Range, Limit}
use Rattle.mz_base.proofs.LimitLemmas.{IsCost-from_test}
use Rattle.mz_base.proofs.TextFields.{IsShort-field, fields-utf8}
use Rattle.dict_rows.specs.Rows.{RowFields, RowNumbers, are_in_range, fields_row, is_blank, passes_limit, ranged, row_fields, row_numbers, within_limits, word_of, word_row}
use Rattle.dict_rows.specs.Words.{AreWords}
use Rattle.dict_rows.proofs.TallyLemmas.{times_in-push}

first-false : (a b : Bool) → (a || b) ≡ false → a ≡ false
first-false true b told = told
first-false false b told = refl

second-false : (a b : Bool) → (a || b) ≡ false → b ≡ false
second-false true b told = absurd (let never : true ≡ false = told in cc)
second-false false b told = told

-- the texts of a row are texts
abbrev AreTexts : Option RowFields → Type 0
AreTexts None = Unit {0}
AreTexts (Some row) = IsUtf8 row.reading × IsUtf8 row.value

row_fields-texts : (fields : List (List ℕ)) → AllByRecursion IsUtf8 fields → AreTexts (row_fields fields)
row_fields-texts [] all = tt
row_fields-texts (a ∷ []) all = tt
row_fields-texts (a ∷ b ∷ []) all = tt
row_fields-texts (a ∷ b ∷ c ∷ []) all = tt
row_fields-texts (a ∷ b ∷ c ∷ d ∷ []) all = tt
row_fields-texts (reading ∷ lid ∷ rid ∷ cost ∷ value ∷ more) all = (all.0, all.1.1.1.1.0)

-- the row is sound, and it is not one too many after these
pub record IsNext (ids : ℕ) (rows : List WordRow) (row : WordRow) : Type 0 where
  pub sound : IsWordSound ids row
  pub room : length rows < MOST_WORDS
  pub seldom : times_in rows row.reading < MOST_HOMOPHONES

IsNext-made : (ids : ℕ) (rows : List WordRow) (row : RowFields) (numbers : RowNumbers) → AreTexts (Some row) → (is_blank row.reading || is_blank row.value) ≡ false → are_in_range ids numbers ≡ true → passes_limit rows row ≡ false → IsNext ids rows (word_of row numbers)
IsNext-made ids rows row numbers texts filled ranged within = record {
  sound = record {
    read = grind (arith, nat_tests, filled);
    left = grind (arith, nat_tests, ranged);
    right = grind (arith, nat_tests, ranged);
    cost = IsCost-from_test numbers.cost (grind (arith, nat_tests, ranged));
    valued = grind (arith, nat_tests, filled);
    short_reading = IsShort-field row.reading texts.0 (first-false _ _ within);
    short_value = IsShort-field row.value texts.1 (first-false _ _ (second-false _ _ within));
  };
  room = grind (arith, nat_tests, within);
  seldom = grind (arith, nat_tests, within);
}

-- what the numbers give
numbers-IsNext : (ids : ℕ) (rows : List WordRow) (number : ℕ) (fields : RowFields) (numbers : Option RowNumbers) (row : WordRow) → AreTexts (Some fields) → (is_blank fields.reading || is_blank fields.value) ≡ false → (ranged ids number numbers >>= within_limits rows number fields) ≡ Ok (Some row) → IsNext ids rows row
numbers-IsNext ids rows number fields None row texts filled given = absurd cc
numbers-IsNext ids rows number fields (Some numbers) row texts filled given =
    elim (cases_Bool (are_in_range ids numbers)) [
      | inl within ↦ elim (cases_Bool (passes_limit rows fields)) [
        | inl passes ↦ let never : Err (Limit number) ≡ Ok (Some row) = rw (within, passes) at given in absurd cc
        | inr short ↦
            let is : Ok (Some (word_of fields numbers)) ≡ Ok (Some row) = rw (within, short) at given in
            let same : word_of fields numbers ≡ row = cc in
            subst (IsNext ids rows) same (IsNext-made ids rows fields numbers texts filled within short)
      ]
      | inr outside ↦ let never : Err (Range number) ≡ Ok (Some row) = rw outside at given in absurd cc
    ]

-- what the fields give
fields-IsNext : (ids : ℕ) (rows : List WordRow) (number : ℕ) (fields : Option RowFields) (row : WordRow) → AreTexts fields → fields_row ids rows number fields ≡ Ok (Some row) → IsNext ids rows row
fields-IsNext ids rows number None row texts given = absurd cc
fields-IsNext ids rows number (Some fields) row texts given =
    elim (cases_Bool (is_blank fields.reading || is_blank fields.value)) [
      | inl empty ↦ let never : Err (Empty number) ≡ Ok (Some row) = rw empty at given in absurd cc
      | inr filled ↦ numbers-IsNext ids rows number fields (row_numbers fields) row texts filled (rw filled at given)
    ]

-- what a line gives
line-IsNext : (ids : ℕ) (rows : List WordRow) (number : ℕ) (line : List ℕ) (row : WordRow) → word_row ids rows number line ≡ Ok (Some row) → IsNext ids rows row
unfolding word_row
line-IsNext ids rows number line row given =
    elim (cases_Bool (is_utf8 line)) [
      | inl text ↦ elim (cases_Bool (eqb (length line) 0)) [
        | inl empty ↦ let never : Ok None ≡ Ok (Some row) = rw (text, empty) at given in absurd cc
        | inr some ↦ fields-IsNext ids rows number (row_fields (fields_of line)) row (row_fields-texts (fields_of line) (fields-utf8 line text)) (rw (text, some) at given)
      ]
      | inr bytes ↦ let never : Err (NotUtf8 number) ≡ Ok (Some row) = rw bytes at given in absurd cc
    ]

-- a row more of one reading
times_in-more : (rows : List WordRow) (word : WordRow) (reading : List ℕ) → ((reading : List ℕ) → times_in rows reading ≤ MOST_HOMOPHONES) → times_in rows word.reading < MOST_HOMOPHONES → times_in (rows ++ word ∷ []) reading ≤ MOST_HOMOPHONES
times_in-more rows word reading before seldom =
    elim (cases_Bool (is_text reading word.reading)) [
      | inl is ↦
          let same : word.reading ≡ reading = (bytes_eq-Decides word.reading reading).0 is in
          let more : times_in (rows ++ word ∷ []) reading ≡ times_in rows reading + 1 = rw is at (times_in-push rows word reading) in
          let few : times_in rows reading < MOST_HOMOPHONES = subst (λ text. times_in rows text < MOST_HOMOPHONES) same seldom in
          omega (arith, more, few)
      | inr other ↦
          let more : times_in (rows ++ word ∷ []) reading ≡ times_in rows reading + 0 = rw other at (times_in-push rows word reading) in
          omega (arith, more, before reading)
    ]

more_words : (ids : ℕ) (rows : List WordRow) (row : Option WordRow) → ((word : WordRow) → row ≡ Some word → IsNext ids rows word) → AreWords ids rows → AreWords ids (rows ++ option_to_list row)
more_words ids rows None next words = record {
  sound = All-append (IsWordSound ids) rows [] words.sound (All-nil (IsWordSound ids));
  few = rw append-nil words.few;
  homophones = rw append-nil words.homophones;
}
more_words ids rows (Some word) next words =
    let is = next word refl in record {
      sound = All-append (IsWordSound ids) rows (word ∷ []) words.sound (All-cons (IsWordSound ids) word [] is.sound (All-nil (IsWordSound ids)));
      few = omega (arith, length-append rows (word ∷ []), is.room);
      homophones = λ reading. times_in-more rows word reading words.homophones is.seldom;
    }

-- line by line
pub words_after : (ids : ℕ) (rows : List WordRow) (number : ℕ) (lines : List (List ℕ)) (all : List WordRow) → AreWords ids rows → rows_after (word_row ids) rows number lines ≡ Ok all → AreWords ids all
words_after ids rows number [] all words is = let same : rows ≡ all = cc in subst (AreWords ids) same words
words_after ids rows number (line ∷ lines) all words is =
    elim (word_row ids rows number line) as (λ given. word_row ids rows number line ≡ given → (given >>= (λ row. rows_after (word_row ids) (rows ++ option_to_list row) (number + 1) lines)) ≡ Ok all → AreWords ids all) [
      | Ok row ↦ λ given rest. words_after ids (rows ++ option_to_list row) (number + 1) lines all (more_words ids rows row (λ word same. line-IsNext ids rows number line word (rw same at given)) words) rest
      | Err kind ↦ λ given rest. absurd (cc)
    ] refl is
