-- Paths and their cost: docs/CONVERSION.md, "Paths".
use Rattle.std.specs.Prelude.{◌≡◌, ℕ, ◌<◌, ◌≤◌, ℤ, ◌+ℤ◌, List, [], ◌∷◌, length}
use Rattle.mz_base.specs.Data.{DataLists, connection}
use Rattle.mz_base.specs.declared.lattice.Entry.{Entry}
use Rattle.mz_base.specs.declared.lattice.Lattice.{Lattice}
use Rattle.mz_base.specs.declared.lattice.Span.{Span}
use Rattle.conversion_meaning.specs.Lattices.{entry}

-- the entries of these ordinals touch, from the position `from` to the position `to`
abbrev pub IsPath : List Entry → ℕ → ℕ → List ℕ → Type 0
IsPath es from to [] = from ≡ to
IsPath es from to (o ∷ path) = (o < length es) × ((entry es o).begin ≡ from) × IsPath es (entry es o).end to path

-- the costs of the entries, and of the connections between neighbours and with the ids on both sides
abbrev pub cost_between : DataLists → List Entry → ℕ → ℕ → List ℕ → ℤ
cost_between d es left right [] = connection d left right
cost_between d es left right (o ∷ path) =
    (connection d left (entry es o).lid +ℤ (entry es o).cost) +ℤ cost_between d es (entry es o).rid right path

-- a span begins before it ends, ends inside the key, and has ids that there are beside it
pub record IsSpan (d : DataLists) (l : Lattice) (span : Span) : Type 0 where
  pub forward : span.begin < span.end
  pub inside : span.end ≤ length l.key
  pub left : span.left < d.ids
  pub right : span.right < d.ids

-- the whole of a key, after this id and before the id 0
abbrev pub whole_key : List ℕ → ℕ → Span
whole_key key left = record { begin = 0; end = length key; left = left; right = 0 }

abbrev pub whole : Lattice → ℕ → Span
whole l left = whole_key l.key left

-- a path over a span
abbrev pub IsPathOver : List Entry → Span → List ℕ → Type 0
IsPathOver es span path = IsPath es span.begin span.end path

-- its cost
abbrev pub path_cost : DataLists → List Entry → Span → List ℕ → ℤ
path_cost d es span path = cost_between d es span.left span.right path
