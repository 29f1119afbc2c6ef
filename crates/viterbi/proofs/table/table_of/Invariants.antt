use Rattle.viterbi.proofs.TableLemmas.{IsSoFar}
use Rattle.viterbi.proofs.table.table_of.Given as goal

-- the table of the entries so far, and the arrivals at the begin of the last
abbrev pub invariant-loop-o : goal.invariant-loop-o
invariant-loop-o g l =
    IsSoFar (g.D.DataSet.lists l.set) l.lattice l.span l.here l.table l.o
