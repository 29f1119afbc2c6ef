-- A set that has the values of a list.
use Rattle.std.specs.Prelude.{◌≡◌, ℕ, List}
use Rattle.std.specs.List.{list_any}
use Rattle.std.specs.Str.{bytes_eq}
use Rattle.std.specs.declared.alloc.Global.{Global}
use Rattle.std.specs.declared.vec.Vec.{Vec}
use Rattle.mz_base.specs.declared.lattice.Candidate.{Candidate}
use Rattle.conversion_meaning.specs.Rules.{is_value}

-- the keys are the values of these candidates
abbrev pub AreValues : List (Vec ℕ Global) → List Candidate → Type 0
AreValues keys list =
    (value : List ℕ) → list_any (λ (key : Vec ℕ Global). bytes_eq value key.items) keys ≡ list_any (is_value value) list
