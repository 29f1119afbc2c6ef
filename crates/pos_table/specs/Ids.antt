-- The rows of an id file: docs/FORMATS.md, "Ids".
use Rattle.std.specs.Prelude.{ℕ, ◌<◌, ◌==◌, Bool, not, List, [], Option, Some, None, Result, Ok, Err, if◌then◌else◌, length, nat_le, nat_lt, find}
use Rattle.std.specs.List.{AllPairs, before_first, after_first, filter_map, position_or_len, range_with_len}
use Rattle.std.specs.Str.{chars, is_utf8}
use Rattle.mz_base.specs.Answers.{◌>>=◌}
use Rattle.mz_base.specs.Latest.{latest}
use Rattle.mz_base.specs.Limits.{is_long}
use Rattle.mz_base.specs.Lines.{lines_of}
use Rattle.mz_base.specs.Numbers.{number_of}
use Rattle.mz_base.specs.Rows.{rows_after}
use Rattle.mz_base.specs.declared.data.IdRow.{IdRow}
use Rattle.mz_base.specs.declared.fault.FaultKind.{FaultKind}
use Rattle.mz_base.specs.declared.fault.FaultKind.TheVariants.{NotUtf8, Fields, Number, Range, Limit}

-- the two parts of a row
pub record IdFields : Type 0 where
  pub id : List ℕ
  pub feature : List ℕ

abbrev pub is_space : ℕ → Bool
is_space b = b == 32

-- what stands before the first space, and what stands after it
abbrev pub id_fields : List ℕ → Option IdFields
id_fields line =
    if nat_lt (position_or_len is_space line) (length line) then Some (record { id = before_first is_space line; feature = after_first is_space line }) else None

abbrev pub numbered : ℕ → ℕ → List ℕ → Option ℕ → Result IdRow FaultKind
numbered ids number feature None = Err (Number number)
numbered ids number feature (Some id) =
    if nat_le ids id then Err (Range number) else
    if is_long feature then Err (Limit number) else
    Ok (record { id = id; feature = chars feature })

abbrev pub fields_id : ℕ → ℕ → Option IdFields → Result IdRow FaultKind
fields_id ids number None = Err (Fields number)
fields_id ids number (Some row) = numbered ids number row.feature (number_of row.id)

-- the row that a line has
abbrev pub id_in : ℕ → ℕ → List ℕ → Result IdRow FaultKind
id_in ids number line = fields_id ids number (id_fields line)

-- what the line with this number gives; an empty line gives no row
unfoldable pub id_row : ℕ → ℕ → List ℕ → Result (Option IdRow) FaultKind
id_row ids number line =
    if not (is_utf8 line) then Err (NotUtf8 number) else
    if length line == 0 then Ok None else
    id_in ids number line >>= (λ row. Ok (Some row))

-- the row is of this id
abbrev pub has_id : ℕ → IdRow → Bool
has_id id row = id == row.id

abbrev pub same_id : IdRow → IdRow → Bool
same_id row other = has_id row.id other

-- for each id that has a row, its last one, by rising id
abbrev pub by_id : ℕ → List IdRow → List IdRow
by_id ids rows = filter_map (λ id. find (has_id id) (latest same_id rows)) (range_with_len 0 ids)

-- the rows of a file, or its first fault
abbrev pub id_rows : ℕ → List ℕ → Result (List IdRow) FaultKind
id_rows ids bytes = rows_after (λ _. id_row ids) [] 1 (lines_of bytes) >>= (λ rows. Ok (by_id ids rows))

-- the ids rise: each is less than all later ones
abbrev pub RiseById : List IdRow → Type 0
RiseById = AllPairs (λ row later. row.id < later.id)
