-- What the lines of a user's dictionary give: docs/FORMATS.md, "User dictionary".
use Rattle.std.specs.Prelude.{ℕ, ◌+◌, ◌==◌, ◌&&◌, ◌||◌, Bool, not, List, [], ◌∷◌, ◌++◌, Option, Some, None, Result, Ok, Err, if◌then◌else◌, count_by, encode_utf8_all, length, nat_le, nat_lt}
use Rattle.std.specs.List.{list_any}
use Rattle.std.specs.Str.{chars, is_utf8}
use Rattle.unicode_normalization.specs.Forms.{nfkc}
use Rattle.mz_base.specs.Answers.{◌>>=◌}
use Rattle.mz_base.specs.Data.{is_text}
use Rattle.mz_base.specs.Folds.{hiragana}
use Rattle.mz_base.specs.Lines.{fields_of, is_skipped, lines_of}
use Rattle.mz_base.specs.declared.data.TheConstants.{MOST_FIELD_BYTES}
use Rattle.mz_base.specs.declared.user.TheConstants.{MOST_USER_HOMOPHONES, MOST_USER_ROWS}
use Rattle.mz_base.specs.declared.user.UserRow.{UserRow}
use Rattle.user_dict.specs.declared.error.ImportError.{ImportError}
use Rattle.user_dict.specs.declared.error.ImportError.TheVariants as error
use Rattle.user_dict.specs.declared.skipped.Skip.{Skip}
use Rattle.user_dict.specs.declared.skipped.Skip.TheVariants as skip
use Rattle.user_dict.specs.declared.skipped.SkippedLine.{SkippedLine}

-- what lines have given: the rows that are kept, and the lines that were skipped
pub record Taken : Type 0 where
  pub rows : List UserRow
  pub skipped : List SkippedLine

abbrev pub with_row : Taken → UserRow → Taken
with_row taken row = record { rows = taken.rows ++ row ∷ []; skipped = taken.skipped }

abbrev pub with_skip : Taken → ℕ → Skip → Taken
with_skip taken line why = record { rows = taken.rows; skipped = taken.skipped ++ record { line = line; why = why } ∷ [] }

-- the reading that the characters of a field make
abbrev pub reading_of : List ℕ → List ℕ
reading_of letters = hiragana (nfkc letters)

-- a text has more bytes than a field may have
abbrev pub is_long : List ℕ → Bool
is_long text = nat_lt MOST_FIELD_BYTES (length (encode_utf8_all text))

-- two rows are equal but for their lines
abbrev pub is_same : UserRow → UserRow → Bool
is_same row other =
    is_text other.reading row.reading && (is_text other.word row.word && is_text other.pos row.pos)

abbrev pub has : List UserRow → UserRow → Bool
has rows row = list_any (is_same row) rows

-- how many rows have this reading
abbrev pub times_in : List UserRow → List ℕ → ℕ
times_in rows reading = count_by (λ (row : UserRow). is_text reading row.reading) rows

-- a text of the row is too long, or its reading has as many rows as may be
abbrev pub is_past : List UserRow → UserRow → Bool
is_past rows row =
    is_long row.reading || (is_long row.word || nat_le MOST_USER_HOMOPHONES (times_in rows row.reading))

-- a row is kept, unless it is one too many
abbrev pub take_new : Taken → UserRow → Result Taken ImportError
take_new taken row =
    if nat_le MOST_USER_ROWS (length taken.rows) then Err (error.Limit row.line) else Ok (with_row taken row)

-- a row with a reading and a word; a repeated one changes nothing
abbrev pub take_full : Taken → UserRow → Result Taken ImportError
take_full taken row =
    if has taken.rows row then Ok taken else
    if is_past taken.rows row then Ok (with_skip taken row.line skip.Limit) else
    take_new taken row

abbrev pub take_row : Taken → UserRow → Result Taken ImportError
take_row taken row =
    if length row.reading == 0 then Ok (with_skip taken row.line skip.Reading) else
    if length row.word == 0 then Ok (with_skip taken row.line skip.Word) else
    take_full taken row

-- the first three fields of a line, before they are read
pub record RowFields : Type 0 where
  pub reading : List ℕ
  pub word : List ℕ
  pub pos : List ℕ

abbrev pub row_fields : List (List ℕ) → Option RowFields
row_fields (reading ∷ word ∷ pos ∷ more) = Some (record { reading = reading; word = word; pos = pos })
row_fields _ = None

-- the row that they make
abbrev pub made_row : ℕ → RowFields → UserRow
made_row number fields =
    record { reading = reading_of (chars fields.reading); word = chars fields.word; pos = chars fields.pos; line = number }

abbrev pub take_fields : Taken → ℕ → Option RowFields → Result Taken ImportError
take_fields taken number None = Ok (with_skip taken number skip.Fields)
take_fields taken number (Some fields) = take_row taken (made_row number fields)

unfoldable pub take_line : Taken → ℕ → List ℕ → Result Taken ImportError
take_line taken number line =
    if not (is_utf8 line) then Err (error.NotUtf8 number) else
    if is_skipped line then Ok taken else
    take_fields taken number (row_fields (fields_of line))

unfoldable pub take_lines : Taken → ℕ → List (List ℕ) → Result Taken ImportError
take_lines taken number [] = Ok taken
take_lines taken number (line ∷ lines) =
    take_line taken number line >>= (λ taken. take_lines taken (number + 1) lines)

-- what a file gives
abbrev pub taken_of : List ℕ → Result Taken ImportError
taken_of bytes = take_lines (record { rows = []; skipped = [] }) 1 (lines_of bytes)
