-- The rules of a file are the rules of a table.
use Rattle.std.proofs.Common.{◌≡◌, ◌≢◌, ℕ, ◌==◌, ◌<◌, true, false, List, [], ◌∷◌, Option, Some, None, Ok, Err, length, sym, subst, inl, inr, arith, nat_le, option_to_list}
use Rattle.std.specs.List.{All, AllByRecursion, list_any}
use Rattle.std.specs.Str.{chars, is_utf8}
use Rattle.std.proofs.lemmas.Bool.{cases_Bool}
use Rattle.std.proofs.lemmas.Bool.Decides.{nat_tests}
use Rattle.std.proofs.lemmas.List.Elements.{All-cons, All-nil}
use Rattle.std.proofs.lemmas.Slice.Eq.{bytes_eq-Decides}
use Rattle.mz_base.specs.ByName.{name_before}
use Rattle.mz_base.specs.Kana.{AreDistinct, AreRules, IsRule}
use Rattle.mz_base.specs.Latest.{latest}
use Rattle.mz_base.specs.Lines.{fields_of}
use Rattle.mz_base.specs.declared.romaji.Rule.{Rule}
use Rattle.mz_base.specs.declared.fault.FaultKind.TheVariants.{NotUtf8, Empty, LongPending, Limit}
use Rattle.mz_base.proofs.ByNameLemmas.{latest-All}
use Rattle.mz_base.proofs.SortLemmas.{AllTwo, in_order-All, in_order-AllTwo}
use Rattle.romaji_table.specs.Inputs.{input_of, latest_by_input, same_input}
use Rattle.romaji_table.specs.Rows.{RowFields, fields_row, is_comment, passes_limit, romaji_row, row_fields, rule_of}

-- a rule that none repeats differs from each in its input
differs : (rule : Rule) (rules : List Rule) → list_any (same_input rule) rules ≡ false → AllByRecursion (λ other. other.input ≢ rule.input) rules
differs rule [] none = tt
differs rule (other ∷ rules) none =
    elim (cases_Bool (same_input rule other)) [
      | inl is ↦ let found : true ≡ false = rw is at none in absurd cc
      | inr apart ↦ (
        λ same. let is : same_input rule other ≡ true = (bytes_eq-Decides rule.input other.input).1 (sym same) in absurd cc,
        differs rule rules (rw apart at none),
      )
    ]

-- no two that are kept have one input
pub latest-AreDistinct : (rules : List Rule) → AreDistinct (latest same_input rules)
latest-AreDistinct [] = tt
latest-AreDistinct (rule ∷ rules) =
    elim (cases_Bool (list_any (same_input rule) rules)) [
      | inl repeats ↦ rw repeats (latest-AreDistinct rules)
      | inr last ↦ rw last (latest-All (λ other. other.input ≢ rule.input) same_input rules (differs rule rules last), latest-AreDistinct rules)
    ]

-- the inputs differ
abbrev Differ : Rule → Rule → Type 0
Differ rule other = other.input ≢ rule.input

two-from : (rules : List Rule) → AreDistinct rules → AllTwo (name_before input_of) Differ rules
two-from [] distinct = tt
two-from (rule ∷ rules) distinct = (distinct.0, two-from rules distinct.1)

distinct-from : (rules : List Rule) → AllTwo (name_before input_of) Differ rules → AreDistinct rules
distinct-from [] two = tt
distinct-from (rule ∷ rules) two = (two.0, distinct-from rules two.1)

-- the rules that are kept are those of a table
pub latest-AreRules : (rules : List Rule) → AllByRecursion IsRule rules → AreRules (latest_by_input rules)
latest-AreRules rules each = record {
  each = in_order-All (name_before input_of) IsRule (latest same_input rules) (latest-All IsRule same_input rules each);
  distinct = distinct-from (latest_by_input rules) (in_order-AllTwo (name_before input_of) Differ (λ rule other differ same. differ (sym same)) (latest same_input rules) (two-from (latest same_input rules) (latest-AreDistinct rules)));
}

-- a row whose pending text is shorter than its input is a rule
shorter-IsRule : (row : RowFields) → nat_le (length (chars row.input)) (length (chars row.pending)) ≡ false → IsRule (rule_of row)
shorter-IsRule row short =
    let less : length (chars row.pending) < length (chars row.input) = grind (arith, nat_tests) in record {
      typed = omega (arith, less);
      shorter = less;
    }

-- the fields of a line give a rule
fields-IsRule : (rows number : ℕ) (fields : Option RowFields) (row : Option Rule) → fields_row rows number fields ≡ Ok row → All IsRule (option_to_list row)
fields-IsRule rows number None row given = absurd cc
fields-IsRule rows number (Some fields) row given =
    elim (cases_Bool (length fields.input == 0)) [
      | inl empty ↦ let never : Err (Empty number) ≡ Ok row = rw empty at given in absurd cc
      | inr typed ↦ elim (cases_Bool (nat_le (length (chars fields.input)) (length (chars fields.pending)))) [
        | inl long ↦ let never : Err (LongPending number) ≡ Ok row = rw (typed, long) at given in absurd cc
        | inr short ↦ elim (cases_Bool (passes_limit rows fields)) [
          | inl passes ↦ let never : Err (Limit number) ≡ Ok row = rw (typed, short, passes) at given in absurd cc
          | inr within ↦
              let is : Ok (Some (rule_of fields)) ≡ Ok row = rw (typed, short, within) at given in
              let same : Some (rule_of fields) ≡ row = cc in
              subst (λ row. All IsRule (option_to_list row)) same (All-cons IsRule (rule_of fields) [] (shorter-IsRule fields short) (All-nil IsRule))
        ]
      ]
    ]

-- a line gives a rule, if it gives any
pub row-IsRule : (rows : List Rule) (number : ℕ) (line : List ℕ) (row : Option Rule) → romaji_row rows number line ≡ Ok row → All IsRule (option_to_list row)
row-IsRule rows number line row given =
    elim (cases_Bool (is_utf8 line)) [
      | inl text ↦ elim (cases_Bool (is_comment line)) [
        | inl skipped ↦
            let is : Ok None ≡ Ok row = rw (text, skipped) at given in
            let same : None ≡ row = cc in
            subst (λ row. All IsRule (option_to_list row)) same (All-nil IsRule)
        | inr other ↦ fields-IsRule (length rows) number (row_fields (fields_of line)) row (rw (text, other) at given)
      ]
      | inr bytes ↦ let never : Err (NotUtf8 number) ≡ Ok row = rw bytes at given in absurd cc
    ]
