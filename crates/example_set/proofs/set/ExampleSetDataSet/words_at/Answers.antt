use Rattle.std.proofs.Common.{rules, ap, ◌∙◌, ◌≡◌, ◌+◌, ◌++◌, ◌-◌, length, arith}
use Rattle.std.specs.List.{flat_map, range_with_len}
use Rattle.mz_base.specs.Data.{hits_at, hits_to, readings}
use Rattle.conversion_meaning.proofs.RangeLemmas.{flat_map_step}
use Rattle.conversion_meaning.specs.Examples.{set}
use Rattle.example_set.proofs.set.ExampleSetDataSet.words_at.Goals as goal

pub loop-end-init : goal.loop-end-init
unfolding hits_at
loop-end-init c =
    let key = c.args.key.now in
    let begin = c.args.begin in
    let to = hits_to (readings set) key begin in
    let count : length key + 1 - (begin + 1) ≡ length key - begin = omega arith in
    ap (λ hits. hits ++ flat_map to (range_with_len (begin + 1) (length key + 1 - (begin + 1)))) c.new-hits.ensures.items ∙ ap (λ n. flat_map to (range_with_len (begin + 1) n)) count

pub loop-end-preserved : goal.loop-end-preserved
loop-end-preserved c =
    let key = c.args.key.now in
    let begin = c.args.begin in
    let at = c.loop-end in
    let to = hits_to (readings set) key begin in
    let grown : c.push_hits.new.out.items ≡ at.hits.items ++ to at.end = search rules in
    ap (λ xs. xs ++ flat_map to (range_with_len (at.end + 1) (length key + 1 - (at.end + 1)))) grown ∙ flat_map_step to at.hits.items (hits_at (readings set) key begin) at.end (length key + 1) c.loop-end-test.true at.invariant
