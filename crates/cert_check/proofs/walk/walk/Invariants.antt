use Rattle.cert_check.proofs.WalkLemmas.{IsAt}
use Rattle.cert_check.proofs.walk.walk.Given as goal

abbrev pub invariant-loop-place : goal.invariant-loop-place
invariant-loop-place g l =
    IsAt (g.D.DataSet.lists l.set) l.entries l.span l.path l.here l.rid l.cost l.place
