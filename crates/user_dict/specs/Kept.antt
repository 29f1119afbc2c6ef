-- The rows that the code keeps while it reads.
use Rattle.std.specs.Prelude.{◌≡◌, ℕ, ◌≤◌, List, length, map}
use Rattle.std.specs.Option.{option_map_or}
use Rattle.std.specs.HashMap.{get_by}
use Rattle.std.specs.Str.{bytes_eq}
use Rattle.mz_base.specs.declared.user.TheConstants.{MOST_USER_ROWS}
use Rattle.mz_base.specs.declared.user.UserRow.{UserRow}
use Rattle.user_dict.specs.Rows.{Taken, times_in}
use Rattle.user_dict.specs.declared.counts.Counts.{Counts}
use Rattle.user_dict.specs.declared.reader.Reader.{Reader}
use Rattle.user_dict.specs.declared.words.Words.{Words}

-- the row of three texts and a line
abbrev pub row_of_words : Words → ℕ → UserRow
row_of_words words line =
    record { reading = words.reading.items; word = words.word.items; pos = words.pos.items; line = line }

abbrev pub row_of_entry : Words × ℕ → UserRow
row_of_entry entry = row_of_words entry.0 entry.1

-- what a reader has taken
abbrev pub taken_by : Reader → Taken
taken_by reader = record { rows = map row_of_entry reader.rows.entries; skipped = reader.skipped.items }

-- the number that stands under a reading
abbrev pub count_of : Counts → List ℕ → ℕ
count_of counts reading =
    option_map_or (λ n. n) (get_by (λ key. bytes_eq reading key.items) counts.by_reading) 0

-- each reading is counted
abbrev pub AreCounts : Counts → List UserRow → Type 0
AreCounts counts rows = (reading : List ℕ) → count_of counts reading ≡ times_in rows reading

-- the rows of each reading are counted, and there are not too many rows
pub record IsReader (reader : Reader) : Type 0 where
  pub counts : AreCounts reader.counts (taken_by reader).rows
  pub few : length (taken_by reader).rows ≤ MOST_USER_ROWS
