-- The edges of a certificate, target by target: docs/CONVERSION.md, "Verdict".
use Rattle.std.specs.Prelude.{◌≡◌, ℕ, ◌+◌, ◌<◌, ◌≤◌, ℤ, pos, ◌+ℤ◌, ◌≤ℤ◌, ◌<ℤ◌, List, Contains, length, nat_lt, if◌then◌else◌, slice_index_or, Option, Some, None}
use Rattle.mz_base.specs.Data.{DataLists, connection}
use Rattle.mz_base.specs.declared.lattice.Entry.{Entry}
use Rattle.mz_base.specs.declared.lattice.Span.{Span}
use Rattle.conversion_meaning.specs.Lattices.{entry}
use Rattle.cert_check.specs.declared.edge.Source.{Source}
use Rattle.cert_check.specs.declared.edge.Target.{Target}
use Rattle.cert_check.specs.declared.edge.Edge.{Edge}

-- the start of a span
abbrev pub start : Span → Source
start span = record { rid = span.left; potential = pos 0 }

-- an entry as a source
abbrev pub source_at : List Entry → List ℤ → ℕ → Source
source_at es potentials o =
    record { rid = (entry es o).rid; potential = slice_index_or potentials o (pos 0) }

-- an entry as a target
abbrev pub target_of : List Entry → List ℤ → ℕ → Target
target_of es potentials o =
    record { begin = (entry es o).begin; lid = (entry es o).lid; cost = (entry es o).cost; potential = slice_index_or potentials o (pos 0) }

-- the target of a rank: the entries by their ordinals, and then the end
abbrev pub target_at : List Entry → List ℤ → Target → ℕ → Target
target_at es potentials end rank =
    if nat_lt rank (length es) then target_of es potentials rank else end

-- the target's ordinal, none at the end
abbrev pub ordinal_at : ℕ → ℕ → Option ℕ
ordinal_at count rank = if nat_lt rank count then Some rank else None

-- the cost by which a source leads to a target
abbrev pub cost_by : DataLists → Source → Target → ℤ
cost_by d source target =
    (source.potential +ℤ connection d source.rid target.lid) +ℤ target.cost

-- the target's potential is at most that
abbrev pub IsMetBy : DataLists → Source → Target → Type 0
IsMetBy d source target = target.potential ≤ℤ cost_by d source target

-- it is more
abbrev pub IsUnmetBy : DataLists → Source → Target → Type 0
IsUnmetBy d source target = cost_by d source target <ℤ target.potential

-- the entry ends here
pub record EndsAt (es : List Entry) (here o : ℕ) : Type 0 where
  pub inside : o < length es
  pub ends : (entry es o).end ≡ here

-- the entries below an ordinal that touch the target meet it
pub record AreMetBelow (d : DataLists) (es : List Entry) (potentials : List ℤ) (target : Target) (most : ℕ) : Type 0 where
  pub each : (o : ℕ) → o < most → EndsAt es target.begin o → IsMetBy d (source_at es potentials o) target

-- the first entry that touches the target and does not meet it
pub record IsFirstSource (d : DataLists) (es : List Entry) (potentials : List ℤ) (target : Target) (o : ℕ) : Type 0 where
  pub touch : EndsAt es target.begin o
  pub unmet : IsUnmetBy d (source_at es potentials o) target
  pub lower : AreMetBelow d es potentials target o

-- that entry, or none
abbrev pub FirstSource : DataLists → List Entry → List ℤ → Target → Option ℕ → Type 0
FirstSource d es potentials target None = AreMetBelow d es potentials target (length es)
FirstSource d es potentials target (Some o) = IsFirstSource d es potentials target o

-- the start meets the target, where they touch
abbrev pub IsStartMet : DataLists → Span → Target → Type 0
IsStartMet d span target = target.begin ≡ span.begin → IsMetBy d (start span) target

-- they touch, and it does not
abbrev pub IsStartUnmet : DataLists → Span → Target → Type 0
IsStartUnmet d span target = (target.begin ≡ span.begin) × IsUnmetBy d (start span) target

-- each source that touches the target meets it
pub record AreMetInto (d : DataLists) (es : List Entry) (span : Span) (potentials : List ℤ) (target : Target) : Type 0 where
  pub first : IsStartMet d span target
  pub entries : AreMetBelow d es potentials target (length es)

-- the first source, the start before the entries, that touches the target and does not meet it
abbrev pub IsFirstInto : DataLists → List Entry → Span → List ℤ → Target → Option ℕ → Type 0
IsFirstInto d es span potentials target None = IsStartUnmet d span target
IsFirstInto d es span potentials target (Some o) =
    IsStartMet d span target × IsFirstSource d es potentials target o

-- that source, or none
abbrev pub FirstInto : DataLists → List Entry → Span → List ℤ → Target → Option (Option ℕ) → Type 0
FirstInto d es span potentials target None = AreMetInto d es span potentials target
FirstInto d es span potentials target (Some from) = IsFirstInto d es span potentials target from

-- each target below a rank is met
pub record AreMetTo (d : DataLists) (es : List Entry) (span : Span) (potentials : List ℤ) (end : Target) (most : ℕ) : Type 0 where
  pub each : (rank : ℕ) → rank < most → AreMetInto d es span potentials (target_at es potentials end rank)

-- the first edge that is not met, by target and then by source
pub record IsFirstEdge (d : DataLists) (es : List Entry) (span : Span) (potentials : List ℤ) (end : Target) (edge : Edge) : Type 0 where
  pub rank : ℕ
  pub within : rank < length es + 1
  pub to_is : edge.to ≡ ordinal_at (length es) rank
  pub from_is : IsFirstInto d es span potentials (target_at es potentials end rank) edge.from
  pub lower : AreMetTo d es span potentials end rank

-- that edge, or none
abbrev pub FirstEdge : DataLists → List Entry → Span → List ℤ → Target → Option Edge → Type 0
FirstEdge d es span potentials end None = AreMetTo d es span potentials end (length es + 1)
FirstEdge d es span potentials end (Some edge) = IsFirstEdge d es span potentials end edge

-- entries begin in order, none past this position
pub record BeginsRise (es : List Entry) (last : ℕ) : Type 0 where
  pub rising : (o : ℕ) → o + 1 < length es → (entry es o).begin ≤ (entry es (o + 1)).begin
  pub inside : (o : ℕ) → o < length es → (entry es o).begin ≤ last

-- each number below the length of the list is in it
abbrev pub AreOrdinals : List ℕ → Type 0
AreOrdinals xs = (o : ℕ) → o < length xs → Contains xs o
