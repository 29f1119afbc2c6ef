-- A file that is read line by line.
use Rattle.std.specs.Prelude.{◌≡◌, ℕ, ◌+◌, ◌<◌, ◌==◌, nat_le, not, if◌then◌else◌, List, [], ◌∷◌, ◌++◌, length, take, slice_index_or, Option, Some, None, Result, Ok, Err, option_to_list}
use Rattle.std.specs.List.{flat_map}
use Rattle.std.specs.Str.{is_utf8}
use Rattle.mz_base.specs.Answers.{◌>>=◌}
use Rattle.mz_base.specs.Lines.{lines_of}
use Rattle.mz_base.specs.declared.data.TheConstants.{MOST_ROWS}
use Rattle.mz_base.specs.declared.fault.FaultKind.{FaultKind}
use Rattle.mz_base.specs.declared.fault.FaultKind.TheVariants.{NotUtf8, Limit}

-- The rows before these lines, then the row of each line that has one; or the first fault.
-- What a line gives may depend on the rows before it, and knows the line's number.
abbrev pub rows_after : {Row : Type 0} → (List Row → ℕ → List ℕ → Result (Option Row) FaultKind) → List Row → ℕ → List (List ℕ) → Result (List Row) FaultKind
rows_after read rows number [] = Ok rows
rows_after read rows number (line ∷ lines) =
    read rows number line >>= (λ row. rows_after read (rows ++ option_to_list row) (number + 1) lines)

-- What a line of a table gives after these rows: a line that is no text is a fault, an empty one gives nothing, and a
-- table has at most `MOST_ROWS` rows.
unfoldable pub table_row : {Row : Type 0} → (ℕ → List ℕ → Result Row FaultKind) → List Row → ℕ → List ℕ → Result (Option Row) FaultKind
table_row read rows number line =
    if not (is_utf8 line) then Err (NotUtf8 number) else
    if length line == 0 then Ok None else
    read number line >>= (λ row. if nat_le MOST_ROWS (length rows) then Err (Limit number) else Ok (Some row))

-- the rows of a table, or its first fault
abbrev pub table_rows : {Row : Type 0} → (ℕ → List ℕ → Result Row FaultKind) → List ℕ → Result (List Row) FaultKind
table_rows read bytes = rows_after (table_row read) [] 1 (lines_of bytes)

-- the line at this place reads, after the rows of the lines before it, and gives this row, or none
pub record IsGiven {Row : Type 0} (read : List Row → ℕ → List ℕ → Result (Option Row) FaultKind) (before : List Row) (first : ℕ) (lines : List (List ℕ)) (place : ℕ) (row : Option Row) : Type 0 where
  pub rows : List Row
  pub so_far : rows_after read before first (take place lines) ≡ Ok rows
  pub given : read rows (first + place) (slice_index_or lines place []) ≡ Ok row

-- each line reads, and the rows are those before and then those of the lines that give one, in order
pub record AreRowsOf {Row : Type 0} (read : List Row → ℕ → List ℕ → Result (Option Row) FaultKind) (before : List Row) (first : ℕ) (lines : List (List ℕ)) (all : List Row) : Type 0 where
  pub each : List (Option Row)
  pub as_many : length each ≡ length lines
  pub joined : all ≡ before ++ flat_map option_to_list each
  pub given : (place : ℕ) → place < length lines → IsGiven read before first lines place (slice_index_or each place None)

-- the line at some place has this fault, and each line before it reads
pub record IsFirstFault {Row : Type 0} (read : List Row → ℕ → List ℕ → Result (Option Row) FaultKind) (before : List Row) (first : ℕ) (lines : List (List ℕ)) (kind : FaultKind) : Type 0 where
  pub place : ℕ
  pub inside : place < length lines
  pub rows : List Row
  pub so_far : rows_after read before first (take place lines) ≡ Ok rows
  pub faulty : read rows (first + place) (slice_index_or lines place []) ≡ Err kind
