-- How best paths go on, entry by entry: docs/CONVERSION.md, "Order of paths".
use Rattle.std.specs.Prelude.{◌≡◌, ℕ, ◌<◌, ◌≤◌, ℤ, ◌+ℤ◌, ◌<ℤ◌, ◌⊎◌, List, length}
use Rattle.mz_base.specs.Data.{DataLists, connection}
use Rattle.mz_base.specs.declared.lattice.Entry.{Entry}
use Rattle.mz_base.specs.declared.lattice.Span.{Span}
use Rattle.conversion_meaning.specs.Best.{IsBest}
use Rattle.conversion_meaning.specs.Lattices.{entry}
use Rattle.conversion_meaning.specs.Paths.{path_cost}

-- what of a span stands before an entry
abbrev pub span_before : List Entry → Span → ℕ → Span
span_before es span o =
    record { begin = span.begin; end = (entry es o).begin; left = span.left; right = (entry es o).lid }

-- the cost of a path over a span whose last entry is o, after this list
abbrev pub cost_through : DataLists → List Entry → Span → List ℕ → ℕ → ℤ
cost_through d es span before o =
    (path_cost d es (span_before es span o) before +ℤ (entry es o).cost) +ℤ connection d (entry es o).rid span.right

-- less cost, or as much and an ordinal that is not higher
abbrev pub IsNotAfter : ℤ → ℕ → ℤ → ℕ → Type 0
IsNotAfter cost o other_cost other = (cost <ℤ other_cost) ⊎ ((cost ≡ other_cost) × (o ≤ other))

-- Of the entries that end with the span, each after the best list before it, this one gives the least cost; and of
-- those that give it this has the least ordinal.
pub record IsBestLast (d : DataLists) (es : List Entry) (span : Span) (before : List ℕ) (o : ℕ) : Type 0 where
  pub inside : o < length es
  pub ends : (entry es o).end ≡ span.end
  pub best : IsBest d es (span_before es span o) before
  pub least : (other : ℕ) (p : List ℕ) → other < length es → (entry es other).end ≡ span.end → IsBest d es (span_before es span other) p → IsNotAfter (cost_through d es span before o) o (cost_through d es span p other) other
