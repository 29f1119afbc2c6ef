-- What leads to a position, the last entry first, and which of it is first in the order of paths: docs/CONVERSION.md.
use Rattle.std.specs.Prelude.{◌≡◌, ℕ, ◌<◌, ℤ, ◌+ℤ◌, ◌<ℤ◌, ◌⊎◌, List, [], ◌∷◌, length}
use Rattle.mz_base.specs.Data.{DataLists, connection}
use Rattle.mz_base.specs.declared.lattice.Entry.{Entry}
use Rattle.mz_base.specs.declared.lattice.Span.{Span}
use Rattle.conversion_meaning.specs.Lattices.{entry}

-- the entries of these ordinals touch, back from the position `to` to the position `from`
abbrev pub IsWayBack : List Entry → ℕ → ℕ → List ℕ → Type 0
IsWayBack es from to [] = from ≡ to
IsWayBack es from to (o ∷ back) = (o < length es) × ((entry es o).end ≡ to) × IsWayBack es from (entry es o).begin back

-- its cost, with the ids on both sides
abbrev pub cost_back : DataLists → List Entry → ℕ → ℕ → List ℕ → ℤ
cost_back d es left right [] = connection d left right
cost_back d es left right (o ∷ back) =
    (cost_back d es left (entry es o).lid back +ℤ (entry es o).cost) +ℤ connection d (entry es o).rid right

-- it is a front of the other list, or lower where they first differ
abbrev pub IsNotHigher : List ℕ → List ℕ → Type 0
IsNotHigher [] other = Unit {0}
IsNotHigher (o ∷ back) [] = ⊥
IsNotHigher (o ∷ back) (x ∷ other) = (o < x) ⊎ ((o ≡ x) × IsNotHigher back other)

-- it costs less, or as much and is not higher
abbrev pub IsNotAfter : DataLists → List Entry → ℕ → ℕ → List ℕ → List ℕ → Type 0
IsNotAfter d es left right back other =
    (cost_back d es left right back <ℤ cost_back d es left right other) ⊎ ((cost_back d es left right back ≡ cost_back d es left right other) × IsNotHigher back other)

-- it leads back to the span's begin, and nothing that does is before it
pub record IsFirstBack (d : DataLists) (es : List Entry) (span : Span) (to right : ℕ) (back : List ℕ) : Type 0 where
  pub joined : IsWayBack es span.begin to back
  pub first : (other : List ℕ) → IsWayBack es span.begin to other → IsNotAfter d es span.left right back other
