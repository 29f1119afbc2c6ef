use Rattle.conversion_meaning.specs.Lattices.{EndBefore}
use Rattle.lattice.proofs.cursor.first_from.Given as goal

-- the entries that were passed end before the position
abbrev pub invariant-loop-place : goal.invariant-loop-place
invariant-loop-place l = EndBefore l.entries l.by_end l.position l.place
