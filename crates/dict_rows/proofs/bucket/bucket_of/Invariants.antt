use Rattle.std.proofs.Common.{◌≡◌, ◌<◌, take}
use Rattle.dict_rows.specs.Bucket.{bucket_of}
use Rattle.dict_rows.specs.declared.bucket.TheConstants.{BUCKETS}
use Rattle.dict_rows.proofs.bucket.bucket_of.Given as goal

abbrev pub invariant-loop-letter : goal.invariant-loop-letter
invariant-loop-letter l =
    (l.bucket ≡ bucket_of (take l.letter-index l.reading)) × (l.bucket < BUCKETS)
