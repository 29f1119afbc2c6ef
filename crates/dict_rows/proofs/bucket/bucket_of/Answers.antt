use Rattle.std.proofs.Common.{◌≡◌, ℕ, ◌+◌, ◌*◌, ◌%◌, ◌<◌, List, get_or, length, take, refl, arith}
use Rattle.std.proofs.lemmas.List.Sums.{fold_more}
use Rattle.dict_rows.specs.Bucket.{bucket_of}
use Rattle.dict_rows.specs.declared.bucket.TheConstants.{BUCKETS, FACTOR}
use Rattle.dict_rows.proofs.bucket.bucket_of.Goals as goal

pub loop-letter-init : goal.loop-letter-init
unfolding bucket_of
loop-letter-init c = (refl, omega arith)

-- the bucket with a letter more
one_more : (letters : List ℕ) (index default : ℕ) → index < length letters → bucket_of (take (index + 1) letters) ≡ (bucket_of (take index letters) * FACTOR + get_or letters index default) % BUCKETS
unfolding bucket_of
one_more letters index default inside =
    fold_more (λ bucket letter. (bucket * FACTOR + letter) % BUCKETS) 0 letters index default inside

within : (sum : ℕ) → sum % BUCKETS < BUCKETS
within sum = omega arith

pub loop-letter-preserved : goal.loop-letter-preserved
loop-letter-preserved c = (
  rw (one_more c.args.reading.now c.loop-letter.letter-index c.letter-item.result c.loop-letter-test.true, ← c.loop-letter.invariant.0, ← c.letter-item.is) refl,
  within _,
)
