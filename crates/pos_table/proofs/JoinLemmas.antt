-- The rows of a segment file are ranges of ids that there are.
use Rattle.std.proofs.Common.{◌≡◌, ℕ, true, List, Option, Some, None, Ok, Err, arith, inl, inr, subst}
use Rattle.std.specs.List.{All}
use Rattle.std.proofs.lemmas.Bool.{cases_Bool}
use Rattle.std.proofs.lemmas.Bool.Decides.{nat_tests}
use Rattle.mz_base.specs.Data.{IsJoinSound}
use Rattle.mz_base.specs.Lines.{fields_of}
use Rattle.mz_base.specs.declared.data.JoinRow.{JoinRow}
use Rattle.mz_base.specs.declared.fault.FaultKind.TheVariants.{Range}
use Rattle.mz_base.proofs.RowFacts.{table_rows-All}
use Rattle.pos_table.specs.Joins.{JoinFields, fields_join, is_join, join_fields, join_in, join_numbers, join_rows, ranged}

IsJoinSound-from_test : (ids : ℕ) (row : JoinRow) → is_join ids row ≡ true → IsJoinSound ids row
IsJoinSound-from_test ids row is = record {
  right = grind (arith, nat_tests, is);
  last_right = grind (arith, nat_tests, is);
  left = grind (arith, nat_tests, is);
  last_left = grind (arith, nat_tests, is);
}

ranged-sound : (ids number : ℕ) (numbers : Option JoinRow) (row : JoinRow) → ranged ids number numbers ≡ Ok row → IsJoinSound ids row
ranged-sound ids number None row given = absurd cc
ranged-sound ids number (Some found) row given =
    elim (cases_Bool (is_join ids found)) [
      | inl is ↦
          let here : Ok found ≡ Ok row = rw is at given in
          let same : found ≡ row = cc in
          subst (IsJoinSound ids) same (IsJoinSound-from_test ids found is)
      | inr outside ↦ let never : Err (Range number) ≡ Ok row = rw outside at given in absurd cc
    ]

fields-sound : (ids number : ℕ) (fields : Option JoinFields) (row : JoinRow) → fields_join ids number fields ≡ Ok row → IsJoinSound ids row
fields-sound ids number None row given = absurd cc
fields-sound ids number (Some fields) row given = ranged-sound ids number (join_numbers fields) row given

pub joins-sound : (ids : ℕ) (bytes : List ℕ) (rows : List JoinRow) → join_rows ids bytes ≡ Ok rows → All (IsJoinSound ids) rows
joins-sound ids bytes rows given =
    table_rows-All (IsJoinSound ids) (join_in ids) (λ number line row text given. fields-sound ids number (join_fields (fields_of line)) row given) bytes rows given
