use Rattle.std.proofs.Common.{◌≤◌, length}
use Rattle.conversion_meaning.specs.Lattices.{EndBefore}
use Rattle.cert_check.specs.Edges.{AreMetTo, target_at}
use Rattle.cert_check.proofs.edges.unmet_edge.Given as goal

-- the targets so far are met, and the cursor is not past the next one's
abbrev pub invariant-loop-rank : goal.invariant-loop-rank
invariant-loop-rank g l =
    record { met : AreMetTo (g.D.DataSet.lists l.set) l.entries l.span l.potentials l.end l.rank; within : l.cursor ≤ length l.by_end; before : EndBefore l.entries l.by_end (target_at l.entries l.potentials l.end l.rank).begin l.cursor }
