use Rattle.std.proofs.Common.{◌≡◌, ◌++◌, drop, filter, nat_lt}
use Rattle.conversion_meaning.specs.Segments.{breaks}
use Rattle.segments.proofs.cutting.push_breaks.Given as goal

-- the ends so far, and those that the rest of the path gives
abbrev pub invariant-loop-place : goal.invariant-loop-place
invariant-loop-place g l =
    l.ends.items ++ filter (nat_lt l.last) (breaks (g.D.DataSet.lists l.set) l.lattice.entries (drop l.place l.path)) ≡ l.initial.ends.items ++ filter (nat_lt l.last) (breaks (g.D.DataSet.lists l.set) l.lattice.entries l.path)
