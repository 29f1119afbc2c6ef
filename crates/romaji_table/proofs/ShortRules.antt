-- The texts of the rules of a file are within the bytes of a field.
use Rattle.std.proofs.Common.{◌≡◌, ℕ, true, false, Bool, ◌||◌, eqb, nat_le, List, [], ◌∷◌, Option, Some, None, Ok, Err, length, option_to_list, refl, inl, inr, subst}
use Rattle.std.specs.List.{All, AllByRecursion}
use Rattle.std.specs.Str.{chars, is_utf8, IsUtf8}
use Rattle.std.proofs.lemmas.Bool.{cases_Bool}
use Rattle.std.proofs.lemmas.List.Elements.{All-cons, All-nil, All-from_recursion, recursion_from_All}
use Rattle.std.proofs.lemmas.List.Sorted.{All-permutation}
use Rattle.std.proofs.lemmas.Str.{IsUtf8-nil}
use Rattle.mz_base.specs.Data.{IsRuleShort}
use Rattle.mz_base.specs.Limits.{is_long}
use Rattle.mz_base.specs.Lines.{fields_of, lines_of}
use Rattle.mz_base.specs.declared.fault.FaultKind.TheVariants.{NotUtf8, Empty, LongPending, Limit}
use Rattle.mz_base.specs.declared.romaji.Rule.{Rule}
use Rattle.mz_base.proofs.AnswerLemmas.{part_gave}
use Rattle.mz_base.proofs.ByNameLemmas.{latest-All, latest_by_name-same}
use Rattle.mz_base.proofs.RowFacts.{rows_after-All}
use Rattle.mz_base.proofs.TextFields.{IsShort-field, fields-utf8}
use Rattle.romaji_table.specs.Inputs.{input_of, latest_by_input, same_input}
use Rattle.romaji_table.specs.Rows.{RowFields, fields_row, is_comment, line_rules, passes_limit, romaji_row, romaji_rows, row_fields, rule_of}

-- the texts of a row are texts
abbrev AreTexts : Option RowFields → Type 0
AreTexts None = Unit {0}
AreTexts (Some row) = IsUtf8 row.input × IsUtf8 row.output × IsUtf8 row.pending

row_fields-texts : (fields : List (List ℕ)) → AllByRecursion IsUtf8 fields → AreTexts (row_fields fields)
row_fields-texts [] all = tt
row_fields-texts (input ∷ []) all = tt
row_fields-texts (input ∷ output ∷ []) all = (all.0, all.1.0, IsUtf8-nil)
row_fields-texts (input ∷ output ∷ pending ∷ []) all = (all.0, all.1.0, all.1.1.0)
row_fields-texts (input ∷ output ∷ pending ∷ more ∷ fields) all = tt

first-false : (a b : Bool) → (a || b) ≡ false → a ≡ false
first-false true b told = told
first-false false b told = refl

second-false : (a b : Bool) → (a || b) ≡ false → b ≡ false
second-false true b told = absurd (let never : true ≡ false = told in cc)
second-false false b told = told

rule-short : (rows : ℕ) (row : RowFields) → AreTexts (Some row) → passes_limit rows row ≡ false → IsRuleShort (rule_of row)
rule-short rows row texts within =
    let fields = second-false (nat_le _ rows) (is_long row.input || (is_long row.output || is_long row.pending)) within in
    let others = second-false (is_long row.input) (is_long row.output || is_long row.pending) fields in
    record {
      input = IsShort-field row.input texts.0 (first-false (is_long row.input) _ fields);
      output = IsShort-field row.output texts.1 (first-false (is_long row.output) (is_long row.pending) others);
      pending = IsShort-field row.pending texts.2 (second-false (is_long row.output) (is_long row.pending) others);
    }

fields-short : (rows number : ℕ) (fields : Option RowFields) (rule : Option Rule) → AreTexts fields → fields_row rows number fields ≡ Ok rule → All IsRuleShort (option_to_list rule)
fields-short rows number None rule texts given = absurd cc
fields-short rows number (Some row) rule texts given =
    elim (cases_Bool (eqb (length row.input) 0)) [
      | inl empty ↦ let never : Err (Empty number) ≡ Ok rule = rw empty at given in absurd cc
      | inr filled ↦ elim (cases_Bool (nat_le (length (chars row.input)) (length (chars row.pending)))) [
        | inl long ↦ let never : Err (LongPending number) ≡ Ok rule = rw (filled, long) at given in absurd cc
        | inr shorter ↦ elim (cases_Bool (passes_limit rows row)) [
          | inl passes ↦ let never : Err (Limit number) ≡ Ok rule = rw (filled, shorter, passes) at given in absurd cc
          | inr within ↦
              let here : Ok (Some (rule_of row)) ≡ Ok rule = rw (filled, shorter, within) at given in
              let same : Some (rule_of row) ≡ rule = cc in
              subst (λ rule. All IsRuleShort (option_to_list rule)) same (All-cons IsRuleShort (rule_of row) [] (rule-short rows row texts within) (All-nil IsRuleShort))
        ]
      ]
    ]

line-short : (rows : List Rule) (number : ℕ) (line : List ℕ) (rule : Option Rule) → romaji_row rows number line ≡ Ok rule → All IsRuleShort (option_to_list rule)
line-short rows number line rule given =
    elim (cases_Bool (is_utf8 line)) [
      | inl text ↦ elim (cases_Bool (is_comment line)) [
        | inl skipped ↦
            let here : Ok None ≡ Ok rule = rw (text, skipped) at given in
            let same : None ≡ rule = cc in
            subst (λ rule. All IsRuleShort (option_to_list rule)) same (All-nil IsRuleShort)
        | inr row ↦ fields-short (length rows) number (row_fields (fields_of line)) rule (row_fields-texts (fields_of line) (fields-utf8 line text)) (rw (text, row) at given)
      ]
      | inr bytes ↦ let never : Err (NotUtf8 number) ≡ Ok rule = rw bytes at given in absurd cc
    ]

pub rules-short : (bytes : List ℕ) (rules : List Rule) → romaji_rows bytes ≡ Ok rules → All IsRuleShort rules
rules-short bytes rules given =
    let (rows, read, kept) = part_gave (line_rules bytes) _ rules given in
    let same : latest_by_input rows ≡ rules = cc in
    let all : All IsRuleShort rows = rows_after-All IsRuleShort romaji_row line-short [] 1 (lines_of bytes) rows (All-nil IsRuleShort) read in
    let latest = latest-All IsRuleShort same_input rows (recursion_from_All IsRuleShort rows all) in
    subst (All IsRuleShort) same (All-permutation IsRuleShort _ _ (latest_by_name-same input_of rows) (All-from_recursion IsRuleShort _ latest))
