-- Of rows that repeat each other, the last holds.
use Rattle.std.specs.Prelude.{Bool, List, [], ◌∷◌, if◌then◌else◌}
use Rattle.std.specs.List.{list_any}

-- the rows that no later row repeats, in their order
abbrev pub latest : {A : Type 0} → (A → A → Bool) → List A → List A
latest same [] = []
latest same (row ∷ rows) =
    if list_any (same row) rows then latest same rows else row ∷ latest same rows
