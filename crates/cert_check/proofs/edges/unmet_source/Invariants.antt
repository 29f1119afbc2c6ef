use Rattle.cert_check.proofs.OrderLemmas.{AreMetBetween}
use Rattle.cert_check.proofs.edges.unmet_source.Given as goal

-- the sources so far touch the target and meet it
abbrev pub invariant-loop-place : goal.invariant-loop-place
invariant-loop-place g l =
    AreMetBetween (g.D.DataSet.lists l.set) l.entries l.by_end l.potentials l.target l.cursor l.place
