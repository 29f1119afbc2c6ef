-- What is left of several pairs when memory runs out among them.
use Rattle.std.specs.Prelude.{◌≡◌, ℕ, List, take}
use Rattle.mz_base.specs.declared.lattice.Pair.{Pair}
use Rattle.session_meaning.specs.History.{learn}

-- the first so many of them are learned
abbrev pub FrontIsLearned : List Pair → List Pair → List Pair → Type 0
FrontIsLearned before pairs after = (count : ℕ) × (after ≡ learn before (take count pairs))
