use Rattle.std.proofs.Common.{◌≡◌, ℕ, map, take}
use Rattle.segments.proofs.resizing.bounds_to.Given as goal

-- the ends of the segments so far
abbrev pub invariant-loop-end_before : goal.invariant-loop-end_before
invariant-loop-end_before l =
    l.bounds.items ≡ map (λ (part : ℕ × ℕ). part.1) (take l.end_before-index l.before)
