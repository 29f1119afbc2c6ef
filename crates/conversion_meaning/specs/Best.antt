-- The best path: docs/CONVERSION.md, "Order of paths".
use Rattle.std.specs.Prelude.{◌≢◌, ℕ, List}
use Rattle.mz_base.specs.Data.{DataLists}
use Rattle.mz_base.specs.declared.lattice.Entry.{Entry}
use Rattle.mz_base.specs.declared.lattice.Span.{Span}
use Rattle.conversion_meaning.specs.Order.{IsBefore}
use Rattle.conversion_meaning.specs.Paths.{IsPathOver}

-- the path over a span that is before every other path over it
pub record IsBest (d : DataLists) (es : List Entry) (span : Span) (path : List ℕ) : Type 0 where
  pub joined : IsPathOver es span path
  pub first : (other : List ℕ) → IsPathOver es span other → other ≢ path → IsBefore d es span path other
