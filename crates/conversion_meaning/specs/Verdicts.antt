-- The verdict on a certificate, with the first condition that is false: docs/CONVERSION.md, "Verdict".
use Rattle.std.specs.Prelude.{◌≡◌, ◌≢◌, ℕ, ◌+◌, ◌<◌, ℤ, ◌<ℤ◌, ◌⊎◌, List, length, take, slice_index, Option, Some, None, Result, Ok, Err}
use Rattle.mz_base.specs.declared.lattice.Entry.{Entry}
use Rattle.mz_base.specs.declared.lattice.Span.{Span}
use Rattle.mz_base.specs.declared.status.CertFault.{CertFault}
use Rattle.mz_base.specs.declared.status.CertFault.TheVariants as fault
use Rattle.conversion_meaning.specs.Certificates.{Claim, IsCertificate, IsEdge, IsMet, AreMet, cost_along, count_of, target_potential}
use Rattle.conversion_meaning.specs.Lattices.{entry}
use Rattle.conversion_meaning.specs.Paths.{IsPath, IsPathOver, path_cost}

-- Here the path does not go on: its next ordinal is no entry that begins here, or it is over and this is not its end.
pub record Stops (es : List Entry) (here to : ℕ) (path : List ℕ) (place : ℕ) : Type 0 where
  pub next : place < length path → slice_index path place < length es → (entry es (slice_index path place)).begin ≢ here
  pub over : length path ≡ place → here ≢ to

-- the first place where the path does not go on, its length where it does not end with the span
pub record BreaksAt (es : List Entry) (span : Span) (path : List ℕ) (place : ℕ) : Type 0 where
  pub within : place < length path + 1
  pub here : ℕ
  pub joined : IsPath es span.begin here (take place path)
  pub stops : Stops es here span.end path place

-- targets rise, and the end is the last
abbrev pub target_rank : Claim → Option ℕ → ℕ
target_rank c None = count_of c
target_rank c (Some place) = place

-- sources rise, and the start is the first
abbrev pub source_rank : Option ℕ → ℕ
source_rank None = 0
source_rank (Some place) = place + 1

-- an edge is tested before another: by target, then by source
abbrev pub IsEarlier : Claim → Option ℕ → Option ℕ → Option ℕ → Option ℕ → Type 0
IsEarlier c source target other_source other_target =
    (target_rank c target < target_rank c other_target) ⊎ ((target_rank c target ≡ target_rank c other_target) × (source_rank source < source_rank other_source))

-- the first edge that is not met
pub record IsFirstUnmet (c : Claim) (source target : Option ℕ) : Type 0 where
  pub edge : IsEdge c source target
  pub unmet : cost_along c source target <ℤ target_potential c target
  pub earlier : (other_source other_target : Option ℕ) → IsEdge c other_source other_target → IsEarlier c other_source other_target source target → IsMet c other_source other_target

-- 1. the number of potentials, wanted and found
pub record IsLengthFault (c : Claim) (wanted found : ℕ) : Type 0 where
  pub wanted_is : wanted ≡ count_of c
  pub found_is : found ≡ length c.potentials
  pub differ : wanted ≢ found

-- 2. the place on the path, where the number is right
pub record IsPathFault (c : Claim) (place : ℕ) : Type 0 where
  pub count : length c.potentials ≡ count_of c
  pub breaks : BreaksAt c.entries c.span c.path place

-- 3. the edge, where the path is one
pub record IsEdgeFault (c : Claim) (source target : Option ℕ) : Type 0 where
  pub count : length c.potentials ≡ count_of c
  pub joined : IsPathOver c.entries c.span c.path
  pub first : IsFirstUnmet c source target

-- 4. the total, said and found, where each edge is met
pub record IsTotalFault (c : Claim) (said found : ℤ) : Type 0 where
  pub count : length c.potentials ≡ count_of c
  pub joined : IsPathOver c.entries c.span c.path
  pub edges : AreMet c
  pub said_is : said ≡ c.total
  pub found_is : found ≡ path_cost c.lists c.entries c.span c.path
  pub differ : said ≢ found

-- The first condition of a certificate that is false. None speaks of a line of a file.
abbrev pub IsFault : Claim → CertFault → Type 0
IsFault c (fault.Text _) = ⊥
IsFault c (fault.Length wanted found) = IsLengthFault c wanted found
IsFault c (fault.Path place) = IsPathFault c place
IsFault c (fault.Edge source target) = IsEdgeFault c source target
IsFault c (fault.Total said found) = IsTotalFault c said found

-- the verdict: it is a certificate, or its first fault
abbrev pub IsVerdict : {A : Type 0} → Claim → Result A CertFault → Type 0
IsVerdict c (Ok _) = IsCertificate c
IsVerdict c (Err fault) = IsFault c fault
