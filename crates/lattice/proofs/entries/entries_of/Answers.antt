use Rattle.std.proofs.Common.{ap, ◌∙◌, ◌+◌, ◌++◌, ◌-◌, length}
use Rattle.std.specs.List.{flat_map, range_with_len}
use Rattle.conversion_meaning.specs.Entries.{entries, entries_from}
use Rattle.conversion_meaning.proofs.RangeLemmas.{flat_map_step}
use Rattle.lattice.proofs.entries.entries_of.Goals as goal

pub loop-begin-preserved : goal.loop-begin-preserved
loop-begin-preserved g c =
    let d = g.D.DataSet.lists c.args.set.now in
    let rows = g.U.UserWords.rows c.args.user.now in
    let key = c.args.key.now in
    let from = entries_from d rows key c.args.bounds.now in
    let at = c.loop-begin in
    let step = flat_map_step from at.out.items (entries d rows key c.args.bounds.now) at.begin (length key) c.loop-begin-test.true at.invariant in
    ap (λ xs. xs ++ flat_map from (range_with_len (at.begin + 1) (length key - (at.begin + 1)))) c.in_ok-push_from.ensures ∙ step
