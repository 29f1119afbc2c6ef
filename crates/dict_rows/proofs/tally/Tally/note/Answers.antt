use Rattle.std.proofs.Common.{◌≡◌, ◌<◌, ap, sym, ◌∙◌, length, arith}
use Rattle.std.proofs.lemmas.List.{length-set}
use Rattle.dict_rows.specs.Bucket.{bucket_of}
use Rattle.dict_rows.proofs.TallyLemmas.{IsTally-push, raised-grows, raised-rises}
use Rattle.dict_rows.proofs.tally.Tally.note.Goals as goal

pub returns-then-count-lt-MOST_HOMOPHONES : goal.returns-then-count-lt-MOST_HOMOPHONES
returns-then-count-lt-MOST_HOMOPHONES c = λ rows row tallied same.
    let counts = c.args.self.now.counts.items in
    let place = c.bucket_of.result in
    let inside : place < length counts = rw c.requires c.bucket_of.ensures.bounded in
    let here : place ≡ bucket_of row.reading = c.bucket_of.ensures.bucket ∙ ap bucket_of (c.as_chars.ensures ∙ sym same) in
    let count = c.index_mut.ensures.value in
    IsTally-push c.args.self.now _ rows row tallied (length-set counts place _ ∙ c.requires) (raised-grows counts place _ inside count) (λ room. rw (← here) (raised-rises counts place _ inside count))

pub returns-else-count-lt-MOST_HOMOPHONES : goal.returns-else-count-lt-MOST_HOMOPHONES
returns-else-count-lt-MOST_HOMOPHONES c = λ rows row tallied same.
    IsTally-push c.args.self.now c.args.self.now rows row tallied tallied.whole (λ bucket. omega arith) (λ room. absurd (omega (arith, rw same at room, c.count.ensures, c.if-count-lt-MOST_HOMOPHONES.false)))
