use Rattle.viterbi.proofs.ArrivalLemmas.{IsFirstLeast-more}
use Rattle.viterbi.proofs.arrivals.first_least.Goals as goal

pub loop-place-preserved : goal.loop-place-preserved
loop-place-preserved g c =
    IsFirstLeast-more (g.D.DataSet.lists c.args.set.now) c.args.arrivals.now c.args.lid c.loop-place.place c.loop-place.best c.offer_at.result c.lesser-best.result c.loop-place.invariant c.loop-place-test.true c.offer_at.ensures.place c.offer_at.ensures.cost c.lesser-best.ensures
