-- A walk along a path over a span: docs/CONVERSION.md, "Verdict".
use Rattle.std.specs.Prelude.{◌≡◌, ◌≢◌, ℕ, ◌<◌, ◌≤◌, ℤ, List, length, Option, Some, None, Result, Ok, Err}
use Rattle.mz_base.specs.Data.{DataLists, IsCost}
use Rattle.mz_base.specs.declared.lattice.Entry.{Entry}
use Rattle.mz_base.specs.declared.lattice.Span.{Span}
use Rattle.mz_base.specs.declared.lattice.TheConstants.{MOST_KEY}
use Rattle.conversion_meaning.specs.Lattices.{entry}
use Rattle.conversion_meaning.specs.Paths.{IsPathOver, path_cost}
use Rattle.conversion_meaning.specs.Verdicts.{BreaksAt}

-- an entry begins before it ends, and has ids that there are and a cost
pub record IsSound (d : DataLists) (e : Entry) : Type 0 where
  pub forward : e.begin < e.end
  pub left : e.lid < d.ids
  pub right : e.rid < d.ids
  pub cost : IsCost e.cost

-- each entry is so
pub record AreSound (d : DataLists) (es : List Entry) : Type 0 where
  pub each : (o : ℕ) → o < length es → IsSound d (entry es o)

-- no entry ends past this position
pub record AreInside (es : List Entry) (last : ℕ) : Type 0 where
  pub each : (o : ℕ) → o < length es → (entry es o).end ≤ last

-- a span of a key, with ids that there are
pub record IsInKey (d : DataLists) (span : Span) : Type 0 where
  pub forward : span.begin ≤ span.end
  pub short : span.end ≤ MOST_KEY
  pub left : span.left < d.ids
  pub right : span.right < d.ids

-- what follows on a path: the entry of an ordinal, where it begins here
abbrev pub Follows : List Entry → ℕ → ℕ → Option Entry → Type 0
Follows es here ordinal None = ordinal < length es → (entry es ordinal).begin ≢ here
Follows es here ordinal (Some e) = (ordinal < length es) × (e ≡ entry es ordinal) × (e.begin ≡ here)

-- the path's cost, or the place where it breaks
abbrev pub Walks : DataLists → List Entry → Span → List ℕ → Result ℤ ℕ → Type 0
Walks d es span path (Ok cost) = IsPathOver es span path × (cost ≡ path_cost d es span path)
Walks d es span path (Err place) = BreaksAt es span path place
