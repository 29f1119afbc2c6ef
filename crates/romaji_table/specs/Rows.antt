-- The rows of a romaji table: docs/FORMATS.md, "Romaji".
use Rattle.std.specs.Prelude.{ℕ, ◌==◌, ◌&&◌, ◌||◌, Bool, not, List, [], ◌∷◌, Option, Some, None, Result, Ok, Err, if◌then◌else◌, length, nat_le}
use Rattle.std.specs.List.{list_any}
use Rattle.std.specs.Str.{chars, is_utf8}
use Rattle.mz_base.specs.Answers.{◌>>=◌}
use Rattle.mz_base.specs.Limits.{is_long}
use Rattle.mz_base.specs.Lines.{lines_of, fields_of, is_skipped}
use Rattle.mz_base.specs.Rows.{rows_after}
use Rattle.mz_base.specs.declared.data.TheConstants.{MOST_ROWS}
use Rattle.mz_base.specs.declared.romaji.Rule.{Rule}
use Rattle.mz_base.specs.declared.fault.FaultKind.{FaultKind}
use Rattle.mz_base.specs.declared.fault.FaultKind.TheVariants.{NotUtf8, Fields, Empty, LongPending, Limit}
use Rattle.romaji_table.specs.Inputs.{latest_by_input}

-- an empty line, and a line that begins with # and has no tab, give no row
abbrev pub is_comment : List ℕ → Bool
is_comment line = is_skipped line && not (list_any (λ b. b == 9) line)

-- the fields of a row
pub record RowFields : Type 0 where
  pub input : List ℕ
  pub output : List ℕ
  pub pending : List ℕ

-- an input, an output and a pending text, which may be missing and is empty then
abbrev pub row_fields : List (List ℕ) → Option RowFields
row_fields (input ∷ output ∷ []) = Some (record { input = input; output = output; pending = [] })
row_fields (input ∷ output ∷ pending ∷ []) = Some (record { input = input; output = output; pending = pending })
row_fields _ = None

-- the rule of a row
abbrev pub rule_of : RowFields → Rule
rule_of row = record { input = chars row.input; output = chars row.output; pending = chars row.pending }

-- the row after so many, or one of its fields, passes a limit
abbrev pub passes_limit : ℕ → RowFields → Bool
passes_limit rows row =
    nat_le MOST_ROWS rows || (is_long row.input || (is_long row.output || is_long row.pending))

-- what the fields of a line give after so many rows
abbrev pub fields_row : ℕ → ℕ → Option RowFields → Result (Option Rule) FaultKind
fields_row rows number None = Err (Fields number)
fields_row rows number (Some row) =
    if length row.input == 0 then Err (Empty number) else
    if nat_le (length (chars row.input)) (length (chars row.pending)) then Err (LongPending number) else
    if passes_limit rows row then Err (Limit number) else
    Ok (Some (rule_of row))

-- what the line with this number gives after these rows
abbrev pub romaji_row : List Rule → ℕ → List ℕ → Result (Option Rule) FaultKind
romaji_row rows number line =
    if not (is_utf8 line) then Err (NotUtf8 number) else
    if is_comment line then Ok None else
    fields_row (length rows) number (row_fields (fields_of line))

-- the row of each line of a file that has one, or the first fault
abbrev pub line_rules : List ℕ → Result (List Rule) FaultKind
line_rules bytes = rows_after romaji_row [] 1 (lines_of bytes)

-- the rules of a file, of one input the last, in the order of the inputs; or the first fault
abbrev pub romaji_rows : List ℕ → Result (List Rule) FaultKind
romaji_rows bytes = line_rules bytes >>= (λ rows. Ok (latest_by_input rows))
