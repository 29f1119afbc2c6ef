use Rattle.std.proofs.Common.{◌≡◌, ◌++◌, drop}
use Rattle.conversion_meaning.specs.Segments.{parts_from}
use Rattle.segments.proofs.cutting.parts_between.Given as goal

-- the parts so far, and those that the other ends give
abbrev pub invariant-loop-end : goal.invariant-loop-end
invariant-loop-end l =
    l.parts.items ++ parts_from l.begin (drop l.end-index l.ends) ≡ parts_from 0 l.ends
