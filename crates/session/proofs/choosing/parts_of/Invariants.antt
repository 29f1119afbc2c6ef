use Rattle.std.proofs.Common.{◌≡◌, map, take}
use Rattle.mz_base.specs.declared.conversion.Segment.{Segment}
use Rattle.session.proofs.choosing.parts_of.Given as goal

abbrev pub invariant-loop-segment : goal.invariant-loop-segment
invariant-loop-segment l =
    l.parts.items ≡ map (λ (segment : Segment). (segment.begin, segment.end)) (take l.segment-index l.segments)
