-- The entries that end at a position, and the cheapest of them before an id.
use Rattle.std.specs.Prelude.{◌≡◌, ◌≢◌, ℕ, ◌+◌, ◌<◌, ◌≤◌, ℤ, pos, ◌+ℤ◌, ◌<ℤ◌, ◌≤ℤ◌, ◌⊎◌, List, length, slice_index_or, Option, Some, None}
use Rattle.mz_base.specs.Data.{DataLists, connection}
use Rattle.mz_base.specs.declared.lattice.Entry.{Entry}
use Rattle.mz_base.specs.declared.lattice.Span.{Span}
use Rattle.conversion_meaning.specs.Bounds.{IsWithin}
use Rattle.conversion_meaning.specs.Lattices.{EndBefore, entry}
use Rattle.viterbi.specs.declared.arrivals.Arrival.{Arrival}
use Rattle.viterbi.specs.declared.arrivals.Arrivals.{Arrivals}
use Rattle.viterbi.specs.declared.arrivals.Choice.{Choice}
use Rattle.viterbi.specs.declared.arrivals.Offer.{Offer}
use Rattle.viterbi.specs.declared.table.Reached.{Reached}
use Rattle.viterbi.specs.declared.table.Target.{Target}
use Rattle.viterbi.specs.Table.{reached, no_reached, most_reached}

abbrev pub no_arrival : Arrival
no_arrival = record { cost = pos 0; ordinal = 0; rid = 0 }

abbrev pub arrival : List Arrival → ℕ → Arrival
arrival xs k = slice_index_or xs k no_arrival

-- an entry of the span that ends at this position, with its cost in the table
pub record IsArrival (es : List Entry) (span : Span) (table : List Reached) (to : ℕ) (x : Arrival) : Type 0 where
  pub inside : x.ordinal < length table
  pub ends : (entry es x.ordinal).end ≡ to
  pub begins : span.begin ≤ (entry es x.ordinal).begin
  pub cost_is : x.cost ≡ (reached table x.ordinal).cost
  pub rid_is : x.rid ≡ (entry es x.ordinal).rid

-- the ordinals rise
abbrev pub AreRising : List Arrival → Type 0
AreRising xs = (i j : ℕ) → i < j → j < length xs → (arrival xs i).ordinal < (arrival xs j).ordinal

-- all of them, by rising ordinal
pub record AreArrivals (es : List Entry) (span : Span) (table : List Reached) (to : ℕ) (xs : List Arrival) : Type 0 where
  pub each : (k : ℕ) → k < length xs → IsArrival es span table to (arrival xs k)
  pub all : (o : ℕ) → o < length es → (entry es o).end ≡ to → span.begin ≤ (entry es o).begin → (k : ℕ) × (k < length xs) × ((arrival xs k).ordinal ≡ o)
  pub rising : AreRising xs

-- all that end at a position, and the place behind them in the order of ends
pub record AreAllArrivals (es : List Entry) (by_end : List ℕ) (span : Span) (table : List Reached) (x : Arrivals) : Type 0 where
  pub are : AreArrivals es span table x.to x.list.items
  pub within : x.past ≤ length by_end
  pub before : EndBefore es by_end (x.to + 1) x.past

-- the right ids are there, the costs are small, and the ordinals rise
pub record AreSound (d : DataLists) (xs : List Arrival) : Type 0 where
  pub ids : (k : ℕ) → k < length xs → (arrival xs k).rid < d.ids
  pub costs : (k : ℕ) → k < length xs → IsWithin most_reached (arrival xs k).cost
  pub rising : AreRising xs

-- the choice of this arrival before this left id, with the cost of the connection
abbrev pub choice_of : DataLists → ℕ → Arrival → Choice
choice_of d lid x = record { cost = x.cost +ℤ connection d x.rid lid; ordinal = x.ordinal }

-- it costs less, or as much and has no higher ordinal
abbrev pub IsUpTo : Choice → Choice → Type 0
IsUpTo choice other =
    (choice.cost <ℤ other.cost) ⊎ ((choice.cost ≡ other.cost) × (choice.ordinal ≤ other.ordinal))

-- the one with the least cost before this left id, and of several the least ordinal
pub record IsCheapest (d : DataLists) (xs : List Arrival) (lid : ℕ) (choice : Choice) : Type 0 where
  pub place : ℕ
  pub inside : place < length xs
  pub choice_is : choice ≡ choice_of d lid (arrival xs place)
  pub least : (k : ℕ) → k < length xs → IsUpTo choice (choice_of d lid (arrival xs k))

-- the choice among them, none only where there are none
abbrev pub IsChoice : DataLists → List Arrival → ℕ → Option Choice → Type 0
IsChoice d xs lid None = length xs ≡ 0
IsChoice d xs lid (Some choice) = IsCheapest d xs lid choice

-- the cost of the arrival at a place before this left id
abbrev pub cost_at : DataLists → List Arrival → ℕ → ℕ → ℤ
cost_at d xs lid k = (arrival xs k).cost +ℤ connection d (arrival xs k).rid lid

-- the other where it costs less, and else the best so far
abbrev pub IsLesser : Offer → Offer → Offer → Type 0
IsLesser best other offer =
    ((other.cost <ℤ best.cost) × (offer ≡ other)) ⊎ ((best.cost ≤ℤ other.cost) × (offer ≡ best))

-- the first of the least costs before this left id, among the first so many
pub record IsFirstLeast (d : DataLists) (xs : List Arrival) (lid most : ℕ) (offer : Offer) : Type 0 where
  pub inside : offer.place < length xs
  pub cost_is : offer.cost ≡ cost_at d xs lid offer.place
  pub none_less : (k : ℕ) → k < most → offer.cost ≤ℤ cost_at d xs lid k
  pub none_before : (k : ℕ) → k < offer.place → offer.cost <ℤ cost_at d xs lid k

-- the choice, and the cost of the target itself
abbrev pub after_choice : ℤ → Option Choice → Reached
after_choice own None = no_reached
after_choice own (Some choice) = record { cost = choice.cost +ℤ own; before = Some choice.ordinal }

-- from the left id of the span at its begin
abbrev pub at_begin : DataLists → Span → Target → Reached
at_begin d span target = record { cost = connection d span.left target.lid +ℤ target.cost; before = None }

-- an entry as a target
abbrev pub target_of : Entry → Target
target_of e = record { begin = e.begin; lid = e.lid; cost = e.cost }

-- the target is reached from the left id of the span at its begin, and elsewhere by the cheapest arrival
pub record IsReachedBy (d : DataLists) (span : Span) (xs : List Arrival) (target : Target) (r : Reached) : Type 0 where
  pub begin : target.begin ≡ span.begin → r ≡ at_begin d span target
  pub chosen : target.begin ≢ span.begin → (choice : Option Choice) × IsChoice d xs target.lid choice × (r ≡ after_choice target.cost choice)
