-- The rows of a segment file: docs/FORMATS.md, "Segments".
use Rattle.std.specs.Prelude.{ℕ, ◌&&◌, Bool, List, ◌∷◌, Option, Some, None, Result, Ok, Err, if◌then◌else◌, nat_lt, nat_le}
use Rattle.mz_base.specs.Lines.{fields_of}
use Rattle.mz_base.specs.Numbers.{number_of}
use Rattle.mz_base.specs.Rows.{table_rows}
use Rattle.mz_base.specs.declared.data.JoinRow.{JoinRow}
use Rattle.mz_base.specs.declared.fault.FaultKind.{FaultKind}
use Rattle.mz_base.specs.declared.fault.FaultKind.TheVariants.{Fields, Number, Range}

-- the fields of a row, before they are read
pub record JoinFields : Type 0 where
  pub first_right : List ℕ
  pub last_right : List ℕ
  pub first_left : List ℕ
  pub last_left : List ℕ

-- the first and the last right id, the first and the last left id; further fields do not count
abbrev pub join_fields : List (List ℕ) → Option JoinFields
join_fields (first_right ∷ last_right ∷ first_left ∷ last_left ∷ more) =
    Some (record { first_right = first_right; last_right = last_right; first_left = first_left; last_left = last_left })
join_fields _ = None

abbrev pub numbers_from : Option ℕ → Option ℕ → Option ℕ → Option ℕ → Option JoinRow
numbers_from (Some a) (Some b) (Some c) (Some d) =
    Some (record { first_right = a; last_right = b; first_left = c; last_left = d })
numbers_from _ _ _ _ = None

abbrev pub join_numbers : JoinFields → Option JoinRow
join_numbers row =
    numbers_from (number_of row.first_right) (number_of row.last_right) (number_of row.first_left) (number_of row.last_left)

-- two ranges of ids that there are
abbrev pub is_join : ℕ → JoinRow → Bool
is_join ids row =
    nat_le row.first_right row.last_right && (nat_lt row.last_right ids && (nat_le row.first_left row.last_left && nat_lt row.last_left ids))

abbrev pub ranged : ℕ → ℕ → Option JoinRow → Result JoinRow FaultKind
ranged ids number None = Err (Number number)
ranged ids number (Some row) = if is_join ids row then Ok row else Err (Range number)

abbrev pub fields_join : ℕ → ℕ → Option JoinFields → Result JoinRow FaultKind
fields_join ids number None = Err (Fields number)
fields_join ids number (Some row) = ranged ids number (join_numbers row)

-- the row that a line has
abbrev pub join_in : ℕ → ℕ → List ℕ → Result JoinRow FaultKind
join_in ids number line = fields_join ids number (join_fields (fields_of line))

-- the rows of a file, or its first fault
abbrev pub join_rows : ℕ → List ℕ → Result (List JoinRow) FaultKind
join_rows ids bytes = table_rows (join_in ids) bytes
