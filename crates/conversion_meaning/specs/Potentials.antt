-- Potentials: docs/CONVERSION.md, "Certificates".
use Rattle.std.specs.Prelude.{◌≡◌, ℕ, ◌<◌, ℤ, pos, ◌+ℤ◌, ◌≤ℤ◌, Bool, ◌&&◌, List, filter, length, nat_le, slice_index, slice_index_or}
use Rattle.std.specs.List.{range_with_len}
use Rattle.mz_base.specs.Data.{DataLists}
use Rattle.mz_base.specs.declared.lattice.Entry.{Entry}
use Rattle.mz_base.specs.declared.lattice.Span.{Span}
use Rattle.conversion_meaning.specs.Lattices.{entry}
use Rattle.conversion_meaning.specs.Paths.{IsPath, cost_between}

-- the entry begins and ends inside the span
abbrev pub is_in : Span → Entry → Bool
is_in span e = nat_le span.begin e.begin && nat_le e.end span.end

-- the ordinals of the entries of a span, rising
unfoldable pub ordinals_in : List Entry → Span → List ℕ
ordinals_in es span = filter (λ o. is_in span (entry es o)) (range_with_len 0 (length es))

-- what a list of touching entries costs that ends with this one, the connection from the left end included
abbrev pub cost_to : DataLists → List Entry → Span → List ℕ → ℕ → ℤ
cost_to d es span before o = cost_between d es span.left (entry es o).lid before +ℤ (entry es o).cost

-- the least cost of a list of touching entries from the span's begin that ends with this one
pub record IsLeastCost (d : DataLists) (es : List Entry) (span : Span) (o : ℕ) (cost : ℤ) : Type 0 where
  pub reached : (before : List ℕ) × IsPath es span.begin (entry es o).begin before × (cost ≡ cost_to d es span before o)
  pub least : (before : List ℕ) → IsPath es span.begin (entry es o).begin before → cost ≤ℤ cost_to d es span before o

-- the least costs of the entries of a span, by rising ordinal
pub record AreLeastCosts (d : DataLists) (es : List Entry) (span : Span) (potentials : List ℤ) : Type 0 where
  pub count : length potentials ≡ length (ordinals_in es span)
  pub each : (i : ℕ) → i < length potentials → IsLeastCost d es span (slice_index (ordinals_in es span) i) (slice_index_or potentials i (pos 0))
