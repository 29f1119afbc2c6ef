-- The segments of a path, their spans, and the bounds of a resize: docs/CONVERSION.md, "Segments".
use Rattle.std.specs.Prelude.{ℕ, ◌==◌, ℤ, pos, ◌+ℤ◌, Bool, false, ◌&&◌, List, [], ◌∷◌, ◌++◌, cond, filter, find, length, map, nat_le, nat_lt, int_lt, int_le, slice_index_or, take, unsigned_abs, Option, Some, None, if◌then◌else◌}
use Rattle.std.specs.Option.{option_map_or}
use Rattle.mz_base.specs.Data.{DataLists, joins}
use Rattle.mz_base.specs.declared.lattice.Entry.{Entry}
use Rattle.mz_base.specs.declared.lattice.Span.{Span}
use Rattle.conversion_meaning.specs.Lattices.{entry}

-- ---- Cutting. A part of a key is the position where it begins and the one where it ends.

-- the parts between neighbours of these positions, the first from `begin`
abbrev pub parts_from : ℕ → List ℕ → List (ℕ × ℕ)
parts_from begin [] = []
parts_from begin (end ∷ ends) = (begin, end) ∷ parts_from end ends

-- the path goes on with an entry of the same segment
abbrev pub goes_on : DataLists → List Entry → ℕ → List ℕ → Bool
goes_on d es o [] = false
goes_on d es o (next ∷ path) = joins d (entry es o).rid (entry es next).lid

-- the ends of the path's entries after which it does not
abbrev pub breaks : DataLists → List Entry → List ℕ → List ℕ
breaks d es [] = []
breaks d es (o ∷ path) = cond (goes_on d es o path) (breaks d es path) ((entry es o).end ∷ breaks d es path)

-- the last bound; 0 where there is none
abbrev pub last_bound : List ℕ → ℕ
last_bound bounds = slice_index_or (0 ∷ bounds) (length bounds) 0

-- where the segments end: at the bounds, and past the last one where the path breaks
abbrev pub segment_ends : DataLists → List Entry → List ℕ → List ℕ → List ℕ
segment_ends d es bounds path = bounds ++ filter (nat_lt (last_bound bounds)) (breaks d es path)

-- The segments of a path over the whole key.
unfoldable pub cut : DataLists → List Entry → List ℕ → List ℕ → List (ℕ × ℕ)
cut d es bounds path = parts_from 0 (segment_ends d es bounds path)

-- the path's entries inside a part
abbrev pub path_in : List Entry → List ℕ → ℕ × ℕ → List ℕ
path_in es path part = filter (λ o. nat_le part.0 (entry es o).begin && nat_le (entry es o).end part.1) path

-- ---- The span of a part

-- the right id of the path's entry that ends here; 0 where the path begins
abbrev pub id_before : List Entry → List ℕ → ℕ → ℕ
id_before es path here = option_map_or (λ o. (entry es o).rid) (find (λ o. (entry es o).end == here) path) 0

-- the left id of the path's entry that begins here; 0 where the path ends
abbrev pub id_after : List Entry → List ℕ → ℕ → ℕ
id_after es path here = option_map_or (λ o. (entry es o).lid) (find (λ o. (entry es o).begin == here) path) 0

-- a part of the key between the ids of the path on its borders
abbrev pub span_between : List Entry → List ℕ → ℕ × ℕ → Span
span_between es path (begin, end) =
    record { begin = begin; end = end; left = id_before es path begin; right = id_after es path end }

-- ---- Resizing

abbrev pub no_part : ℕ × ℕ
no_part = (0, 0)

-- where the part at this place ends, wider by so many characters
abbrev pub wider_end : List (ℕ × ℕ) → ℕ → ℤ → ℤ
wider_end parts i by = pos (slice_index_or parts i no_part).1 +ℤ by

-- it has a character then, and ends inside a key of this length
abbrev pub can_widen : List (ℕ × ℕ) → ℕ → ℤ → ℕ → Bool
can_widen parts i by length =
    int_lt (pos (slice_index_or parts i no_part).0) (wider_end parts i by) && int_le (wider_end parts i by) (pos length)

-- The bounds with which the segment at this place is wider by so many characters: the ends of those before it, and its
-- new end. None where it can't be.
unfoldable pub resized : List (ℕ × ℕ) → ℕ → ℤ → ℕ → Option (List ℕ)
resized parts i by length =
    if can_widen parts i by length then Some (map (λ (part : ℕ × ℕ). part.1) (take i parts) ++ unsigned_abs (wider_end parts i by) ∷ []) else None
