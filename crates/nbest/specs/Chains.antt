-- The ordinals that a chain has, the last entry's first.
use Rattle.std.specs.Prelude.{ℕ, List, [], Option, None, Some}
use Rattle.std.specs.Arc.{arc_value}
use Rattle.std.specs.Borrow.{Bor}
use Rattle.std.specs.declared.sync.Arc.{Arc}

-- those of the entries that come after the first one of a chain
abbrev pub ordinals_after : {A : Type 0} → Option (Arc (List ℕ) A) → List ℕ
ordinals_after None = []
ordinals_after (Some chain) = arc_value chain

-- those of the tail that is to grow; none where a path has no entry yet
abbrev pub ordinals_of : Option (Bor (List ℕ)) → List ℕ
ordinals_of None = []
ordinals_of (Some chain) = chain.now
