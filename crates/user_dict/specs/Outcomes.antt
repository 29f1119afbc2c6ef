-- What each line of a user's dictionary comes to, by the rows that the lines before it gave: docs/FORMATS.md, "User dictionary".
use Rattle.std.specs.Prelude.{ℕ, ◌+◌, ◌==◌, List, [], ◌∷◌, ◌++◌, Option, Some, None, if◌then◌else◌, length}
use Rattle.std.specs.List.{filter_map}
use Rattle.mz_base.specs.Lines.{fields_of, is_skipped, lines_of}
use Rattle.mz_base.specs.declared.user.UserRow.{UserRow}
use Rattle.user_dict.specs.Rows.{RowFields, has, is_past, made_row, row_fields}
use Rattle.user_dict.specs.declared.skipped.Skip.{Skip}
use Rattle.user_dict.specs.declared.skipped.Skip.TheVariants as skip
use Rattle.user_dict.specs.declared.skipped.SkippedLine.{SkippedLine}

-- its row is kept; it is skipped; it gives nothing: an empty line, a comment, or a row that there is
pub data Outcome : Type 0 where
  Keeps : UserRow → Outcome
  Skips : SkippedLine → Outcome
  Nothing : Outcome

abbrev pub kept_row : Outcome → Option UserRow
kept_row (Keeps row) = Some row
kept_row _ = None

abbrev pub skipped_line : Outcome → Option SkippedLine
skipped_line (Skips skipped) = Some skipped
skipped_line _ = None

-- the rows of some lines, and those of them that are skipped
abbrev pub kept_rows : List Outcome → List UserRow
kept_rows outcomes = filter_map kept_row outcomes

abbrev pub skipped_lines : List Outcome → List SkippedLine
skipped_lines outcomes = filter_map skipped_line outcomes

abbrev pub skips : ℕ → Skip → Outcome
skips line why = Skips (record { line = line; why = why })

-- a row, after these rows
abbrev pub outcome_of_row : List UserRow → UserRow → Outcome
outcome_of_row rows row =
    if length row.reading == 0 then skips row.line skip.Reading else
    if length row.word == 0 then skips row.line skip.Word else
    if has rows row then Nothing else
    if is_past rows row then skips row.line skip.Limit else
    Keeps row

abbrev pub outcome_of_fields : List UserRow → ℕ → Option RowFields → Outcome
outcome_of_fields rows number None = skips number skip.Fields
outcome_of_fields rows number (Some fields) = outcome_of_row rows (made_row number fields)

-- a line that is text
abbrev pub outcome_of : List UserRow → ℕ → List ℕ → Outcome
outcome_of rows number line =
    if is_skipped line then Nothing else outcome_of_fields rows number (row_fields (fields_of line))

-- lines, one after the other
unfoldable pub outcomes_after : List UserRow → ℕ → List (List ℕ) → List Outcome
outcomes_after rows number [] = []
outcomes_after rows number (line ∷ lines) =
    outcome_of rows number line ∷ outcomes_after (rows ++ kept_rows (outcome_of rows number line ∷ [])) (number + 1) lines

-- the lines of a file
abbrev pub outcomes_of : List ℕ → List Outcome
outcomes_of bytes = outcomes_after [] 1 (lines_of bytes)
