-- All paths in order, and the best of them as a function: docs/CONVERSION.md, "Order of paths".
use Rattle.std.specs.Prelude.{ℕ, Bool, List, [], ◌∷◌, if◌then◌else◌, reverse, slice_index_or}
use Rattle.std.specs.Cmp.Lexicographic.{slice_cmp}
use Rattle.std.specs.Ordering.{int_cmp, is_lt, nat_cmp, ordering_then}
use Rattle.mz_base.specs.Data.{DataLists}
use Rattle.mz_base.specs.declared.lattice.Entry.{Entry}
use Rattle.mz_base.specs.declared.lattice.Span.{Span}
use Rattle.conversion_meaning.specs.AllPaths.{all_paths}
use Rattle.conversion_meaning.specs.Paths.{path_cost}

-- p is before q, as a test: by cost, then by the ordinals read from the last to the first
abbrev pub is_before : DataLists → List Entry → Span → List ℕ → List ℕ → Bool
is_before d es span p q =
    is_lt (ordering_then (int_cmp (path_cost d es span p) (path_cost d es span q)) (slice_cmp nat_cmp (reverse p) (reverse q)))

-- an element, put before the first one that it is to be before
abbrev pub put_in_order : {X : Type 0} → (X → X → Bool) → X → List X → List X
put_in_order before x [] = x ∷ []
put_in_order before x (y ∷ ys) = if before x y then x ∷ y ∷ ys else y ∷ put_in_order before x ys

-- the elements of a list in order
abbrev pub in_order : {X : Type 0} → (X → X → Bool) → List X → List X
in_order before [] = []
in_order before (x ∷ xs) = put_in_order before x (in_order before xs)

-- All paths over a span, in the order of paths.
unfoldable pub paths_in_order : DataLists → List Entry → Span → List (List ℕ)
paths_in_order d es span = in_order (is_before d es span) (all_paths es span)

-- the first of them
unfoldable pub best_path : DataLists → List Entry → Span → List ℕ
best_path d es span = slice_index_or (paths_in_order d es span) 0 []
