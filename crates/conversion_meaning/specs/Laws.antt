-- The laws of what a conversion means.
use Rattle.std.specs.Prelude.{◌≡◌, ◌≢◌, ℕ, ◌-◌, ◌*◌, ◌<◌, ◌≤◌, ℤ, ◌≤ℤ◌, ◌⊎◌, List, [], ◌∷◌, ◌++◌, length, slice_index, All, AllPairs, Contains}
use Rattle.std.specs.List.{range_with_len}
use Rattle.mz_base.specs.Data.{DataLists, AreDataSound}
use Rattle.mz_base.specs.declared.lattice.Entry.{Entry}
use Rattle.mz_base.specs.declared.lattice.Lattice.{Lattice}
use Rattle.mz_base.specs.declared.lattice.Span.{Span}
use Rattle.mz_base.specs.declared.status.CertFault.{CertFault}
use Rattle.mz_base.specs.declared.user.TheConstants.{MOST_USER_ROWS}
use Rattle.mz_base.specs.declared.user.UserRow.{UserRow}
use Rattle.conversion_meaning.specs.AllPaths.{all_paths}
use Rattle.conversion_meaning.specs.Best.{IsBest}
use Rattle.conversion_meaning.specs.Bounds.{IsWithin, most_entries, most_path, most_step}
use Rattle.conversion_meaning.specs.Certificates.{Claim, IsCertificate}
use Rattle.conversion_meaning.specs.Entries.{entries}
use Rattle.conversion_meaning.specs.Lattices.{entry, AreBounds, IsKey, IsByEnd, IsCursor, IsLatticeOf, IsWellFormed}
use Rattle.conversion_meaning.specs.Order.{IsBefore}
use Rattle.conversion_meaning.specs.Paths.{IsPathOver, IsSpan, path_cost, whole}
use Rattle.conversion_meaning.specs.Potentials.{IsLeastCost, AreLeastCosts, cost_to, ordinals_in}
use Rattle.conversion_meaning.specs.Steps.{IsBestLast, span_before}
use Rattle.conversion_meaning.specs.Verdicts.{IsFault}

-- ---- The entries of a key, and lattices

-- the entries of a key make a well-formed lattice
abbrev pub EntriesAreWellFormed : Type 0
EntriesAreWellFormed =
    (d : DataLists) (rows : List UserRow) (l : Lattice) → AreDataSound d → IsLatticeOf d rows l → IsWellFormed d l

-- a key with its bounds has a lattice
abbrev pub KeysHaveLattices : Type 0
KeysHaveLattices =
    (d : DataLists) (rows : List UserRow) (key bounds : List ℕ) → IsKey key → AreBounds key bounds → (l : Lattice) × IsLatticeOf d rows l × (l.key ≡ key) × (l.bounds ≡ bounds)

-- ordinals are small
abbrev pub EntriesAreFew : Type 0
EntriesAreFew =
    (d : DataLists) (rows : List UserRow) (key bounds : List ℕ) → AreDataSound d → length rows ≤ MOST_USER_ROWS → IsKey key → length (entries d rows key bounds) ≤ most_entries

-- an entry that ends where another begins comes before it
abbrev pub SourcesComeFirst : Type 0
SourcesComeFirst =
    (d : DataLists) (l : Lattice) (source target : ℕ) → IsWellFormed d l → source < length l.entries → target < length l.entries → (entry l.entries source).end ≡ (entry l.entries target).begin → source < target

-- all entries are entries of the whole key
abbrev pub WholeHasAll : Type 0
WholeHasAll =
    (d : DataLists) (l : Lattice) (left : ℕ) → IsWellFormed d l → ordinals_in l.entries (whole l left) ≡ range_with_len 0 (length l.entries)

-- in the order of ends the first entry that does not end before a position stands at its cursor
abbrev pub CursorsAreFirst : Type 0
CursorsAreFirst =
    (es : List Entry) (by_end : List ℕ) (position cursor : ℕ) → IsByEnd es by_end → cursor ≤ length by_end → ((k : ℕ) → k < cursor → (entry es (slice_index by_end k)).end < position) → (cursor < length by_end → position ≤ (entry es (slice_index by_end cursor)).end) → IsCursor es by_end position cursor

-- an entry that ends at a position stands in the order of ends from the position's cursor on
abbrev pub EndsAreFound : Type 0
EndsAreFound =
    (es : List Entry) (by_end : List ℕ) (position cursor o : ℕ) → IsByEnd es by_end → IsCursor es by_end position cursor → o < length es → (entry es o).end ≡ position → (k : ℕ) × (cursor ≤ k) × (k < length by_end) × (slice_index by_end k ≡ o)

-- ---- Paths

-- in a well-formed lattice the list of all paths has each path over the span
abbrev pub AllPathsAreListed : Type 0
AllPathsAreListed =
    (d : DataLists) (l : Lattice) (span : Span) (path : List ℕ) → IsWellFormed d l → IsPathOver l.entries span path → Contains (all_paths l.entries span) path

-- and nothing else
abbrev pub ListedAreAllPaths : Type 0
ListedAreAllPaths = (es : List Entry) (span : Span) → All (IsPathOver es span) (all_paths es span)

-- and each once
abbrev pub AllPathsAreOnce : Type 0
AllPathsAreOnce = (es : List Entry) (span : Span) → AllPairs (λ p q. p ≢ q) (all_paths es span)

-- a path costs no more than a step a character, and the last connection
abbrev pub PathCostsAreSmall : Type 0
PathCostsAreSmall =
    (d : DataLists) (l : Lattice) (span : Span) (path : List ℕ) → AreDataSound d → IsWellFormed d l → IsSpan d l span → IsPathOver l.entries span path → IsWithin (most_path (span.end - span.begin)) (path_cost d l.entries span path)

-- ---- The order of paths

-- of two different paths exactly one is before the other
abbrev pub OneIsBefore : Type 0
OneIsBefore =
    (d : DataLists) (es : List Entry) (span : Span) (p q : List ℕ) → p ≢ q → (IsBefore d es span p q × ¬ (IsBefore d es span q p)) ⊎ (IsBefore d es span q p × ¬ (IsBefore d es span p q))

-- 'before' is transitive
abbrev pub BeforeGoesOn : Type 0
BeforeGoesOn =
    (d : DataLists) (es : List Entry) (span : Span) (p q r : List ℕ) → IsBefore d es span p q → IsBefore d es span q r → IsBefore d es span p r

-- ---- The best path

-- in a well-formed lattice each span has a best path
abbrev pub OneIsBest : Type 0
OneIsBest =
    (d : DataLists) (l : Lattice) (span : Span) → IsWellFormed d l → IsSpan d l span → (path : List ℕ) × IsBest d l.entries span path

-- and it is one
abbrev pub BestIsOne : Type 0
BestIsOne =
    (d : DataLists) (es : List Entry) (span : Span) (p q : List ℕ) → IsBest d es span p → IsBest d es span q → p ≡ q

-- nothing is the best path from a position to itself
abbrev pub NothingIsBest : Type 0
NothingIsBest =
    (d : DataLists) (l : Lattice) (span : Span) → IsWellFormed d l → span.begin ≡ span.end → IsBest d l.entries span []

-- in a well-formed lattice the best path over a span is the best list before its best last entry, and then this entry
abbrev pub BestGoesOn : Type 0
BestGoesOn =
    (d : DataLists) (l : Lattice) (span : Span) (before : List ℕ) (o : ℕ) → IsWellFormed d l → span.begin < span.end → IsBestLast d l.entries span before o → IsBest d l.entries span (before ++ o ∷ [])

-- ---- Potentials

-- the best list before an entry gives the entry's least cost
abbrev pub BestGivesLeastCost : Type 0
BestGivesLeastCost =
    (d : DataLists) (es : List Entry) (span : Span) (before : List ℕ) (o : ℕ) → IsBest d es (span_before es span o) before → IsLeastCost d es span o (cost_to d es span before o)

-- a least cost is no more than a step a character, up to the entry's end
abbrev pub LeastCostsAreSmall : Type 0
LeastCostsAreSmall =
    (d : DataLists) (l : Lattice) (span : Span) (o : ℕ) (cost : ℤ) → AreDataSound d → IsWellFormed d l → IsSpan d l span → o < length l.entries → IsLeastCost d l.entries span o cost → IsWithin (most_step * ((entry l.entries o).end - span.begin)) cost

-- ---- Certificates, and the verdict on one

-- where a path, potentials and a total are a certificate, no path costs less than the total
abbrev pub NoneCostsLess : Type 0
NoneCostsLess =
    (l : Lattice) (c : Claim) (other : List ℕ) → IsWellFormed c.lists l → c.entries ≡ l.entries → IsCertificate c → IsPathOver c.entries c.span other → c.total ≤ℤ path_cost c.lists c.entries c.span other

-- least costs, the best path and its cost are a certificate
abbrev pub LeastCostsCertify : Type 0
LeastCostsCertify =
    (c : Claim) → c.span.begin < c.span.end → AreLeastCosts c.lists c.entries c.span c.potentials → IsBest c.lists c.entries c.span c.path → c.total ≡ path_cost c.lists c.entries c.span c.path → IsCertificate c

-- a certificate has no fault
abbrev pub CertificatesHaveNoFault : Type 0
CertificatesHaveNoFault = (c : Claim) (fault : CertFault) → IsCertificate c → ¬ (IsFault c fault)

-- a claim has one fault at most
abbrev pub FaultIsOne : Type 0
FaultIsOne = (c : Claim) (fault other : CertFault) → IsFault c fault → IsFault c other → fault ≡ other
