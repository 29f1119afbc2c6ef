-- The words of a user's dictionary: docs/FORMATS.md, "User dictionary".
use Rattle.std.specs.Prelude.{ℕ, List, [], map, slice_index_or, length, max}
use Rattle.std.specs.List.{fold}
use Rattle.mz_base.specs.Data.{rows_with}
use Rattle.mz_base.specs.declared.user.UserRow.{UserRow}

abbrev pub no_user_row : UserRow
no_user_row = record { reading = []; word = []; pos = []; line = 0 }

-- a row by its place
abbrev pub user_row_at : List UserRow → ℕ → UserRow
user_row_at rows place = slice_index_or rows place no_user_row

-- the places of the rows with this reading, rising
abbrev pub user_rows_with : List UserRow → List ℕ → List ℕ
user_rows_with rows reading = rows_with (map (λ (row : UserRow). row.reading) rows) reading

-- the most characters of a reading
unfoldable pub longest_reading : List UserRow → ℕ
longest_reading rows = fold (λ most (row : UserRow). max most (length row.reading)) 0 rows
