-- How many rows have the readings of a bucket.
use Rattle.std.specs.Prelude.{◌≡◌, ◌<◌, ◌≤◌, ℕ, List, length, slice_index_or}
use Rattle.mz_base.specs.declared.data.TheConstants.{MOST_HOMOPHONES}
use Rattle.mz_base.specs.declared.data.WordRow.{WordRow}
use Rattle.dict_rows.specs.Bucket.{bucket_of}
use Rattle.mz_base.specs.Data.{times_in}
use Rattle.dict_rows.specs.declared.bucket.TheConstants.{BUCKETS}
use Rattle.dict_rows.specs.declared.tally.Tally.{Tally}

-- the count of a reading's bucket
abbrev pub count_of : Tally → List ℕ → ℕ
count_of tally reading = slice_index_or tally.counts.items (bucket_of reading) 0

-- each bucket has a count; where it is not full, none of its readings has more rows than it counts
pub record IsTally (tally : Tally) (rows : List WordRow) : Type 0 where
  pub whole : length tally.counts.items ≡ BUCKETS
  pub counted : (reading : List ℕ) → count_of tally reading < MOST_HOMOPHONES → times_in rows reading ≤ count_of tally reading
