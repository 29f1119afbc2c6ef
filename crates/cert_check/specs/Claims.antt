-- What is claimed of a whole key, and of which entries it is judged: docs/CONVERSION.md, "Verdict".
use Rattle.std.specs.Prelude.{◌≡◌, ℕ, ◌<◌, ℤ, pos, ◌≤ℤ◌, List, length}
use Rattle.std.specs.List.{range_with_len}
use Rattle.mz_base.specs.Data.{DataLists}
use Rattle.mz_base.specs.declared.lattice.Entry.{Entry}
use Rattle.mz_base.specs.declared.lattice.Lattice.{Lattice}
use Rattle.mz_base.specs.declared.lattice.Span.{Span}
use Rattle.conversion_meaning.specs.Certificates.{Claim}
use Rattle.conversion_meaning.specs.Lattices.{IsByEnd}
use Rattle.conversion_meaning.specs.Paths.{IsPathOver, path_cost}
use Rattle.conversion_meaning.specs.Potentials.{ordinals_in}
use Rattle.cert_check.specs.declared.edge.Target.{Target}
use Rattle.cert_check.specs.Edges.{BeginsRise}
use Rattle.cert_check.specs.Walks.{AreInside, AreSound, IsInKey}

-- the whole key, between two ids that there are
pub record IsWhole (d : DataLists) (l : Lattice) (span : Span) : Type 0 where
  pub begin : span.begin ≡ 0
  pub end : span.end ≡ length l.key
  pub left : span.left < d.ids
  pub right : span.right < d.ids

-- the end of a span, as a target
pub record IsEnd (d : DataLists) (span : Span) (end : Target) : Type 0 where
  pub begins : end.begin ≡ span.end
  pub right : end.lid ≡ span.right
  pub left : end.lid < d.ids
  pub free : end.cost ≡ pos 0

-- entries that a claim on a span can be judged of, all of which are of the span
pub record AreReady (d : DataLists) (es : List Entry) (by_end : List ℕ) (span : Span) (end : Target) : Type 0 where
  pub order : IsByEnd es by_end
  pub sound : AreSound d es
  pub inside : AreInside es span.end
  pub rising : BeginsRise es end.begin
  pub all : ordinals_in es span ≡ range_with_len 0 (length es)
  pub key : IsInKey d span
  pub last : IsEnd d span end

-- what is claimed: the end's potential is the total
abbrev pub claimed : DataLists → List Entry → Span → List ℕ → List ℤ → Target → Claim
claimed d es span path potentials end =
    record { lists = d; entries = es; span = span; path = path; potentials = potentials; total = end.potential }

-- no path costs less than the total
abbrev pub NoneIsCheaper : Claim → Type 0
NoneIsCheaper c =
    (other : List ℕ) → IsPathOver c.entries c.span other → c.total ≤ℤ path_cost c.lists c.entries c.span other
