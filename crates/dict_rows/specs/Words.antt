-- The rows of a data set's dictionary files.
use Rattle.std.specs.Prelude.{ℕ, ◌≤◌, List, length}
use Rattle.std.specs.List.{All}
use Rattle.mz_base.specs.Data.{IsWordSound, times_in}
use Rattle.mz_base.specs.declared.data.TheConstants.{MOST_WORDS, MOST_HOMOPHONES}
use Rattle.mz_base.specs.declared.data.WordRow.{WordRow}

-- each row is within its limits, and they are no more than a data set may have
pub record AreWords (ids : ℕ) (rows : List WordRow) : Type 0 where
  pub sound : All (IsWordSound ids) rows
  pub few : length rows ≤ MOST_WORDS
  pub homophones : (reading : List ℕ) → times_in rows reading ≤ MOST_HOMOPHONES
