use Rattle.std.proofs.Common.{arith, inl, inr}
use Rattle.cert_check.proofs.OrderLemmas.{between_next, first_source, judged_met, judged_unmet, met_below}
use Rattle.cert_check.proofs.edges.unmet_source.Goals as goal

pub returns-then-entries-ordinal : goal.returns-then-entries-ordinal
returns-then-entries-ordinal g c =
    met_below (g.D.DataSet.lists c.args.set.now) c.args.entries.now c.args.by_end.now c.args.potentials.now c.args.target.now c.args.cursor c.loop-place.place c.requires.order c.requires.at c.loop-place.invariant (inr (let low = c.requires.at.after c.loop-place.place (omega arith) c.loop-place-test.true in let differ = c.if-entries-ordinal.true in omega (arith, low, differ)))

pub returns-then-not-is_met : goal.returns-then-not-is_met
returns-then-not-is_met g c =
    first_source (g.D.DataSet.lists c.args.set.now) c.args.entries.now c.args.by_end.now c.args.potentials.now c.args.target.now c.args.cursor c.loop-place.place c.requires.order c.requires.at c.loop-place.invariant (omega arith) (omega arith) c.if-entries-ordinal.false (judged_unmet (g.D.DataSet.lists c.args.set.now) c.nth_source.result _ c.args.target.now c.is_met.result c.is_met.ensures c.nth_source.ensures c.if-not-is_met.true)

pub loop-place-preserved : goal.loop-place-preserved
loop-place-preserved g c =
    between_next (g.D.DataSet.lists c.args.set.now) c.args.entries.now c.args.by_end.now c.args.potentials.now c.args.target.now c.args.cursor c.loop-place.place c.requires.order c.requires.at c.loop-place.invariant c.if-entries-ordinal.false (judged_met (g.D.DataSet.lists c.args.set.now) c.nth_source.result _ c.args.target.now c.is_met.result c.is_met.ensures c.nth_source.ensures c.if-not-is_met.false)

pub returns : goal.returns
returns g c =
    met_below (g.D.DataSet.lists c.args.set.now) c.args.entries.now c.args.by_end.now c.args.potentials.now c.args.target.now c.args.cursor c.loop-place.place c.requires.order c.requires.at c.loop-place.invariant (inl (omega arith))
