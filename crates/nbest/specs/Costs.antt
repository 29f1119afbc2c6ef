-- The potentials of a span by ordinal.
use Rattle.std.specs.Prelude.{ℕ, ◌+◌, ℤ, pos, Bool, List, [], ◌∷◌, ◌++◌, if◌then◌else◌, replicate, slice_index_or}
use Rattle.mz_base.specs.declared.lattice.Entry.{Entry}

-- the potentials from a place on, each at its ordinal; 0 at the ordinals that do not pass
unfoldable pub by_ordinal : (ℕ → Bool) → List ℕ → List ℤ → ℕ → List ℤ
by_ordinal passes [] potentials next = []
by_ordinal passes (o ∷ os) potentials next =
    if passes o then slice_index_or potentials next (pos 0) ∷ by_ordinal passes os potentials (next + 1) else pos 0 ∷ by_ordinal passes os potentials next

-- with so many times 0 before them and after them
abbrev pub padded : ℕ → List ℤ → ℕ → List ℤ
padded before costs after = replicate before (pos 0) ++ (costs ++ replicate after (pos 0))

-- where an entry begins
abbrev pub begins_at : Entry → ℕ
begins_at e = e.begin
