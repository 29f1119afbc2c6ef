-- All paths over a span: docs/CONVERSION.md, "Paths".
use Rattle.std.specs.Prelude.{ℕ, zero, suc, ◌-◌, ◌==◌, List, [], ◌∷◌, ◌++◌, if◌then◌else◌, map, filter, length}
use Rattle.std.specs.List.{flat_map, range_with_len}
use Rattle.mz_base.specs.declared.lattice.Entry.{Entry}
use Rattle.mz_base.specs.declared.lattice.Span.{Span}
use Rattle.conversion_meaning.specs.Lattices.{entry}

-- the ordinals of the entries that begin here, rising
abbrev pub ordinals_from : List Entry → ℕ → List ℕ
ordinals_from es here = filter (λ o. (entry es o).begin == here) (range_with_len 0 (length es))

-- the empty path, where it leads there
abbrev pub empty_path : ℕ → ℕ → List (List ℕ)
empty_path from to = if from == to then [] ∷ [] else []

-- the paths of at most so many entries, from the position `from` to the position `to`
abbrev pub paths_within : ℕ → List Entry → ℕ → ℕ → List (List ℕ)
paths_within zero es from to = empty_path from to
paths_within (suc most) es from to =
    empty_path from to ++ flat_map (λ o. map (λ path. o ∷ path) (paths_within most es (entry es o).end to)) (ordinals_from es from)

-- All paths over a span. An entry has a character at least, so none has more entries than the span has characters.
unfoldable pub all_paths : List Entry → Span → List (List ℕ)
all_paths es span = paths_within (span.end - span.begin) es span.begin span.end
