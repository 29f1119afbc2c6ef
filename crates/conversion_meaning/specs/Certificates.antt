-- Certificates by the duality of shortest paths: docs/CONVERSION.md, "Certificates".
use Rattle.std.specs.Prelude.{◌≡◌, ℕ, ◌<◌, ℤ, pos, ◌+ℤ◌, ◌≤ℤ◌, List, length, slice_index, slice_index_or, Option, Some, None, IfSome}
use Rattle.mz_base.specs.Data.{DataLists, connection}
use Rattle.mz_base.specs.declared.lattice.Certificate.{Certificate}
use Rattle.mz_base.specs.declared.lattice.Entry.{Entry}
use Rattle.mz_base.specs.declared.lattice.Span.{Span}
use Rattle.conversion_meaning.specs.Lattices.{entry}
use Rattle.conversion_meaning.specs.Paths.{IsPathOver, path_cost}
use Rattle.conversion_meaning.specs.Potentials.{ordinals_in}

-- What is claimed of a span of entries: a path, its cost as the total, and a potential for each entry by rising ordinal.
pub record Claim : Type 0 where
  pub lists : DataLists
  pub entries : List Entry
  pub span : Span
  pub path : List ℕ
  pub potentials : List ℤ
  pub total : ℤ

-- what a certificate claims
abbrev pub claim_of : DataLists → List Entry → Span → Certificate → Claim
claim_of d es span c =
    record { lists = d; entries = es; span = span; path = c.path; potentials = c.potentials; total = c.total }

-- the number of entries of the span
abbrev pub count_of : Claim → ℕ
count_of c = length (ordinals_in c.entries c.span)

-- the entry of a place among those of the span, and its potential
abbrev pub entry_in : Claim → ℕ → Entry
entry_in c place = entry c.entries (slice_index (ordinals_in c.entries c.span) place)

abbrev pub potential : Claim → ℕ → ℤ
potential c place = slice_index_or c.potentials place (pos 0)

-- a source is the start or an entry: where it ends, its right id, its potential
abbrev pub source_end : Claim → Option ℕ → ℕ
source_end c None = c.span.begin
source_end c (Some place) = (entry_in c place).end

abbrev pub source_rid : Claim → Option ℕ → ℕ
source_rid c None = c.span.left
source_rid c (Some place) = (entry_in c place).rid

abbrev pub source_potential : Claim → Option ℕ → ℤ
source_potential c None = pos 0
source_potential c (Some place) = potential c place

-- a target is an entry or the end: where it begins, its left id, its cost, its potential
abbrev pub target_begin : Claim → Option ℕ → ℕ
target_begin c None = c.span.end
target_begin c (Some place) = (entry_in c place).begin

abbrev pub target_lid : Claim → Option ℕ → ℕ
target_lid c None = c.span.right
target_lid c (Some place) = (entry_in c place).lid

abbrev pub target_cost : Claim → Option ℕ → ℤ
target_cost c None = pos 0
target_cost c (Some place) = (entry_in c place).cost

abbrev pub target_potential : Claim → Option ℕ → ℤ
target_potential c None = c.total
target_potential c (Some place) = potential c place

-- a place among the entries of the span, or an end
abbrev pub IsSide : Claim → Option ℕ → Type 0
IsSide c side = IfSome side (λ place. place < count_of c)

-- a source and a target that touch
pub record IsEdge (c : Claim) (source target : Option ℕ) : Type 0 where
  pub source_is : IsSide c source
  pub target_is : IsSide c target
  pub touch : source_end c source ≡ target_begin c target

-- the cost by which an edge leads to the target
abbrev pub cost_along : Claim → Option ℕ → Option ℕ → ℤ
cost_along c source target =
    (source_potential c source +ℤ connection c.lists (source_rid c source) (target_lid c target)) +ℤ target_cost c target

-- the target's potential is at most that
abbrev pub IsMet : Claim → Option ℕ → Option ℕ → Type 0
IsMet c source target = target_potential c target ≤ℤ cost_along c source target

-- each edge is met
abbrev pub AreMet : Claim → Type 0
AreMet c = (source target : Option ℕ) → IsEdge c source target → IsMet c source target

-- The potentials show the path's cost to be the least.
pub record IsCertificate (c : Claim) : Type 0 where
  pub count : length c.potentials ≡ count_of c
  pub joined : IsPathOver c.entries c.span c.path
  pub edges : AreMet c
  pub sum : c.total ≡ path_cost c.lists c.entries c.span c.path
