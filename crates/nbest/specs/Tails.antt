-- The last entries of paths, and their order in a search.
use Rattle.std.specs.Prelude.{◌≡◌, ◌≢◌, ℕ, ℤ, pos, ◌+ℤ◌, ◌-◌, ◌*◌, ◌<◌, ◌<ℤ◌, ◌⊎◌, ⊤, List, [], ◌∷◌, ◌++◌, All, Option, Some, None, drop, length, map, slice_index_or, take}
use Rattle.std.specs.Arc.{arc_value}
use Rattle.std.specs.BinaryHeap.{IsHeap}
use Rattle.std.specs.Cmp.Lexicographic.{slice_cmp}
use Rattle.std.specs.List.{flat_map}
use Rattle.std.specs.List.Sorted.{IsPermutation}
use Rattle.std.specs.Ordering.{int_cmp, nat_cmp, ordering_then}
use Rattle.std.specs.declared.cmp.Ordering.{Ordering}
use Rattle.std.specs.declared.cmp.Ordering.TheVariants.{Greater}
use Rattle.std.specs.declared.cmp.Reverse.{Reverse}
use Rattle.conversion_meaning.specs.Bounds.{IsWithin}
use Rattle.viterbi.specs.Table.{most_reached}
use Rattle.nbest.specs.declared.tail.Sibling.{Sibling}
use Rattle.nbest.specs.declared.tail.Tail.{Tail}

-- the last entries of a path from the last to the first, and the least cost of a path that ends so
pub record Ending : Type 0 where
  pub estimate : ℤ
  pub ordinals : List ℕ

-- ---- Their order

-- it has the lower estimate, or the same and ordinals that are not higher
abbrev pub IsNotBehind : Ending → Ending → Type 0
IsNotBehind e other =
    (e.estimate <ℤ other.estimate) ⊎ ((e.estimate ≡ other.estimate) × (slice_cmp nat_cmp e.ordinals other.ordinals ≢ Greater))

-- none is behind a later one
abbrev pub IsInOrder : List Ending → Type 0
IsInOrder [] = ⊤
IsInOrder (e ∷ rest) = All (IsNotBehind e) rest × IsInOrder rest

-- ---- A tail and its siblings

-- the tail that is longer by this first entry; it costs so much without what the entry adds
abbrev pub begun_by : List ℕ → ℤ → Sibling → Ending
begun_by tail rest s = record { estimate = s.added +ℤ rest; ordinals = tail ++ s.ordinal ∷ [] }

-- the ordinals but the first entry's
abbrev pub but_first : List ℕ → List ℕ
but_first ordinals = take (length ordinals - 1) ordinals

-- a tail as such
abbrev pub ending : Tail → Ending
ending t = record { estimate = t.estimate; ordinals = t.ordinals }

-- what may stand in the place of a tail's first entry
abbrev pub siblings_of : Tail → List Sibling
siblings_of t = (arc_value t.siblings).items

-- a tail and those behind it that differ in the first entry alone
abbrev pub family : Tail → List Ending
family t = ending t ∷ map (begun_by (but_first t.ordinals) t.rest) (drop t.next (siblings_of t))

abbrev pub family_of : Option Tail → List Ending
family_of None = []
family_of (Some t) = family t

-- it has an entry, its siblings are in order, and no estimate is too large to add
pub record IsFamily (t : Tail) : Type 0 where
  pub some : 0 < length t.ordinals
  pub order : IsInOrder (family t)
  pub small : All (λ (e : Ending). IsWithin (3 * most_reached) e.estimate) (family t)

-- ---- What a queue holds

-- all tails of a heap, with their siblings
abbrev pub families : List (Reverse Tail) → List Ending
families tails = flat_map (λ (t : Reverse Tail). family t.0) tails

abbrev pub sibling_cmp : Sibling → Sibling → Ordering
sibling_cmp x y =
    ordering_then (int_cmp x.added y.added) (nat_cmp x.ordinal y.ordinal)

-- the order of the heap, whose greatest tail is the first; the siblings would only part tails that are the same
abbrev pub compared : Reverse Tail → Reverse Tail → Ordering
compared x y =
    ordering_then (int_cmp y.0.estimate x.0.estimate) (ordering_then (slice_cmp nat_cmp y.0.ordinals x.0.ordinals) (ordering_then (slice_cmp sibling_cmp (siblings_of y.0) (siblings_of x.0)) (ordering_then (nat_cmp y.0.next x.0.next) (int_cmp y.0.rest x.0.rest))))

pub record IsQueue (tails : List (Reverse Tail)) : Type 0 where
  pub heap : IsHeap compared tails
  pub families : All (λ (t : Reverse Tail). IsFamily t.0) tails

abbrev pub no_ending : Ending
no_ending = record { estimate = pos 0; ordinals = [] }

-- the first of a queue: it stands there, and none is before it
pub record IsFirstOf (queue : List Ending) (e : Ending) : Type 0 where
  pub some : 0 < length queue
  pub stands : slice_index_or queue 0 no_ending ≡ e
  pub first : All (IsNotBehind e) queue

-- the first ending leaves
abbrev pub LosesFirst : List Ending → List Ending → Type 0
LosesFirst old new = IsPermutation old (slice_index_or old 0 no_ending ∷ new)

-- other endings in the place of the first one
pub record Replaces (old others new : List Ending) : Type 0 where
  pub rest : List Ending
  pub was : LosesFirst old rest
  pub is : IsPermutation (rest ++ others) new
