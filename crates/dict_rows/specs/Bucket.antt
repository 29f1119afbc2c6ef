-- The buckets of readings.
use Rattle.std.specs.Prelude.{ℕ, ◌+◌, ◌*◌, ◌%◌, List}
use Rattle.std.specs.List.{fold}
use Rattle.dict_rows.specs.declared.bucket.TheConstants.{BUCKETS, FACTOR}

-- the bucket of a reading, by its letters
unfoldable pub bucket_of : List ℕ → ℕ
bucket_of reading = fold (λ bucket letter. (bucket * FACTOR + letter) % BUCKETS) 0 reading
