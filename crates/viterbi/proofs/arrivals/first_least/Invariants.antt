use Rattle.viterbi.specs.Arrivals.{IsFirstLeast}
use Rattle.viterbi.proofs.arrivals.first_least.Given as goal

-- the first of the least costs so far
abbrev pub invariant-loop-place : goal.invariant-loop-place
invariant-loop-place g l = IsFirstLeast (g.D.DataSet.lists l.set) l.arrivals l.lid l.place l.best
