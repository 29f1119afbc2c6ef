use Rattle.std.proofs.Common.{◌≡◌, map, take}
use Rattle.mz_base.specs.declared.conversion.Segment.{Segment}
use Rattle.session.proofs.choosing.first_places.Given as goal

abbrev pub invariant-loop-segment : goal.invariant-loop-segment
invariant-loop-segment l = l.places.items ≡ map (λ (segment : Segment). 0) (take l.segment-index l.segments)
