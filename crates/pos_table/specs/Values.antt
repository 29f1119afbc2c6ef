-- The rows of the files of symbols and of single kanji: docs/FORMATS.md, "Symbols" and "Kanji".
use Rattle.std.specs.Prelude.{ℕ, ◌==◌, ◌||◌, List, ◌∷◌, Option, Some, None, Result, Ok, Err, if◌then◌else◌, length}
use Rattle.std.specs.Str.{chars}
use Rattle.mz_base.specs.Limits.{is_long}
use Rattle.mz_base.specs.Lines.{fields_of}
use Rattle.mz_base.specs.Rows.{table_rows}
use Rattle.mz_base.specs.declared.data.ValueRow.{ValueRow}
use Rattle.mz_base.specs.declared.fault.FaultKind.{FaultKind}
use Rattle.mz_base.specs.declared.fault.FaultKind.TheVariants.{Fields, Empty, Limit}

-- the fields of a row, before they are read
pub record ValueFields : Type 0 where
  pub reading : List ℕ
  pub value : List ℕ

-- reading and value; further fields do not count
abbrev pub value_fields : List (List ℕ) → Option ValueFields
value_fields (reading ∷ value ∷ more) = Some (record { reading = reading; value = value })
value_fields _ = None

abbrev pub fields_value : ℕ → Option ValueFields → Result ValueRow FaultKind
fields_value number None = Err (Fields number)
fields_value number (Some row) =
    if (length row.reading == 0) || (length row.value == 0) then Err (Empty number) else
    if is_long row.reading || is_long row.value then Err (Limit number) else
    Ok (record { reading = chars row.reading; value = chars row.value })

-- the row that a line has
abbrev pub value_in : ℕ → List ℕ → Result ValueRow FaultKind
value_in number line = fields_value number (value_fields (fields_of line))

-- the rows of a file, or its first fault
abbrev pub value_rows : List ℕ → Result (List ValueRow) FaultKind
value_rows bytes = table_rows value_in bytes
