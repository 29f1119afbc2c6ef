-- The rows of dictionary files: docs/FORMATS.md, "Dictionary".
use Rattle.std.specs.Prelude.{ℕ, ℤ, ◌==◌, ◌&&◌, ◌||◌, Bool, not, List, ◌∷◌, Option, Some, None, Result, Ok, Err, if◌then◌else◌, length, nat_lt, nat_le}
use Rattle.std.specs.Str.{chars, is_utf8}
use Rattle.mz_base.specs.Answers.{◌>>=◌}
use Rattle.mz_base.specs.Data.{times_in}
use Rattle.mz_base.specs.Limits.{is_cost, is_long}
use Rattle.mz_base.specs.Lines.{lines_of, fields_of}
use Rattle.mz_base.specs.Numbers.{number_of, signed_of}
use Rattle.mz_base.specs.Rows.{rows_after}
use Rattle.mz_base.specs.declared.data.TheConstants.{MOST_WORDS, MOST_HOMOPHONES}
use Rattle.mz_base.specs.declared.data.WordRow.{WordRow}
use Rattle.mz_base.specs.declared.fault.FaultKind.{FaultKind}
use Rattle.mz_base.specs.declared.fault.FaultKind.TheVariants.{NotUtf8, Fields, Empty, Number, Range, Limit}

-- the fields of a row, before they are read
pub record RowFields : Type 0 where
  pub reading : List ℕ
  pub lid : List ℕ
  pub rid : List ℕ
  pub cost : List ℕ
  pub value : List ℕ

-- reading, left id, right id, cost and value; further fields do not count
abbrev pub row_fields : List (List ℕ) → Option RowFields
row_fields (reading ∷ lid ∷ rid ∷ cost ∷ value ∷ more) =
    Some (record { reading = reading; lid = lid; rid = rid; cost = cost; value = value })
row_fields _ = None

-- the numbers of a row
pub record RowNumbers : Type 0 where
  pub lid : ℕ
  pub rid : ℕ
  pub cost : ℤ

abbrev pub numbers_from : Option ℕ → Option ℕ → Option ℤ → Option RowNumbers
numbers_from (Some lid) (Some rid) (Some cost) = Some (record { lid = lid; rid = rid; cost = cost })
numbers_from _ _ _ = None

abbrev pub row_numbers : RowFields → Option RowNumbers
row_numbers row = numbers_from (number_of row.lid) (number_of row.rid) (signed_of 10 row.cost)

-- ids that there are, and a cost within its limits
abbrev pub are_in_range : ℕ → RowNumbers → Bool
are_in_range ids numbers =
    nat_lt numbers.lid ids && (nat_lt numbers.rid ids && is_cost numbers.cost)

-- a row more after these, or one of its texts, passes a limit
abbrev pub passes_limit : List WordRow → RowFields → Bool
passes_limit rows row =
    is_long row.reading || (is_long row.value || (nat_le MOST_WORDS (length rows) || nat_le MOST_HOMOPHONES (times_in rows (chars row.reading))))

-- the row that its fields and numbers make
abbrev pub word_of : RowFields → RowNumbers → WordRow
word_of row numbers =
    record { reading = chars row.reading; lid = numbers.lid; rid = numbers.rid; cost = numbers.cost; value = chars row.value }

abbrev pub ranged : ℕ → ℕ → Option RowNumbers → Result RowNumbers FaultKind
ranged ids number None = Err (Number number)
ranged ids number (Some numbers) = if are_in_range ids numbers then Ok numbers else Err (Range number)

-- a field without characters
abbrev pub is_blank : List ℕ → Bool
is_blank field = length (chars field) == 0

-- the numbers of a row with a reading and a value
abbrev pub numbers_in : ℕ → ℕ → RowFields → Result RowNumbers FaultKind
numbers_in ids number row =
    if is_blank row.reading || is_blank row.value then Err (Empty number) else ranged ids number (row_numbers row)

abbrev pub within_limits : List WordRow → ℕ → RowFields → RowNumbers → Result (Option WordRow) FaultKind
within_limits rows number row numbers =
    if passes_limit rows row then Err (Limit number) else Ok (Some (word_of row numbers))

-- what the fields of a line give after these rows
abbrev pub fields_row : ℕ → List WordRow → ℕ → Option RowFields → Result (Option WordRow) FaultKind
fields_row ids rows number None = Err (Fields number)
fields_row ids rows number (Some row) = numbers_in ids number row >>= within_limits rows number row

-- what the line with this number gives after these rows; an empty line gives none
unfoldable pub word_row : ℕ → List WordRow → ℕ → List ℕ → Result (Option WordRow) FaultKind
word_row ids rows number line =
    if not (is_utf8 line) then Err (NotUtf8 number) else
    if length line == 0 then Ok None else
    fields_row ids rows number (row_fields (fields_of line))

-- the rows before, and then those of a file; or its first fault
abbrev pub word_rows : ℕ → List WordRow → List ℕ → Result (List WordRow) FaultKind
word_rows ids before bytes = rows_after (word_row ids) before 1 (lines_of bytes)
