-- Well-formed lattices: docs/CONVERSION.md, "Lattice".
use Rattle.std.specs.Prelude.{◌≡◌, ℕ, ◌+◌, ◌<◌, ◌≤◌, pos, false, List, length, All, AllPairs, Contains, slice_index, slice_index_or}
use Rattle.std.specs.List.Sorted.{IsStrictlyIncreasing}
use Rattle.mz_base.specs.Data.{DataLists, IsCost}
use Rattle.mz_base.specs.declared.lattice.TheConstants.{MOST_KEY}
use Rattle.mz_base.specs.declared.lattice.Entry.{Entry}
use Rattle.mz_base.specs.declared.lattice.Lattice.{Lattice}
use Rattle.mz_base.specs.declared.lattice.Source.TheVariants.{User}
use Rattle.mz_base.specs.declared.user.UserRow.{UserRow}
use Rattle.conversion_meaning.specs.Entries.{is_cut, entries}

abbrev pub no_entry : Entry
no_entry = record { begin = 0; end = 0; lid = 0; rid = 0; cost = pos 0; source = User 0 }

-- an entry by its ordinal
abbrev pub entry : List Entry → ℕ → Entry
entry es ordinal = slice_index_or es ordinal no_entry

-- a key of a conversion
pub record IsKey (key : List ℕ) : Type 0 where
  pub some : 0 < length key
  pub few : length key ≤ MOST_KEY

-- the bounds rise, from at least 1 to at most the key's length
pub record AreBounds (key bounds : List ℕ) : Type 0 where
  pub rising : IsStrictlyIncreasing bounds
  pub inside : All (λ bound. (0 < bound) × (bound ≤ length key)) bounds

-- an entry begins before it ends, ends inside the key, has ids that there are and a cost, and no bound strictly inside
pub record IsEntry (d : DataLists) (key bounds : List ℕ) (e : Entry) : Type 0 where
  pub forward : e.begin < e.end
  pub inside : e.end ≤ length key
  pub left : e.lid < d.ids
  pub right : e.rid < d.ids
  pub cost : IsCost e.cost
  pub uncut : is_cut bounds e.begin e.end ≡ false

-- by begin, then by end
pub record AreInOrder (e later : Entry) : Type 0 where
  pub begins : e.begin ≤ later.begin
  pub ends : e.begin ≡ later.begin → e.end ≤ later.end

-- some entry is of just the character at this position
abbrev pub HasCharacter : List Entry → ℕ → Type 0
HasCharacter es position =
    (o : ℕ) × (o < length es) × ((entry es o).begin ≡ position) × ((entry es o).end ≡ position + 1)

-- by end, then by ordinal
pub record AreInEndOrder (es : List Entry) (ordinal later : ℕ) : Type 0 where
  pub ends : (entry es ordinal).end ≤ (entry es later).end
  pub ties : (entry es ordinal).end ≡ (entry es later).end → ordinal < later

-- the list has each ordinal once, by end and then rising
pub record IsByEnd (es : List Entry) (by_end : List ℕ) : Type 0 where
  pub count : length by_end ≡ length es
  pub ordinals : All (λ ordinal. ordinal < length es) by_end
  pub each : (o : ℕ) → o < length es → Contains by_end o
  pub rising : AllPairs (AreInEndOrder es) by_end

-- a well-formed lattice for a data set
pub record IsWellFormed (d : DataLists) (l : Lattice) : Type 0 where
  pub key : IsKey l.key
  pub bounds : AreBounds l.key l.bounds
  pub entries : All (IsEntry d l.key l.bounds) l.entries
  pub rising : AllPairs AreInOrder l.entries
  pub characters : (position : ℕ) → position < length l.key → HasCharacter l.entries position
  pub by_end : IsByEnd l.entries l.by_end

-- the lattice of its key and bounds, for a data set and a user's rows
pub record IsLatticeOf (d : DataLists) (rows : List UserRow) (l : Lattice) : Type 0 where
  pub key : IsKey l.key
  pub bounds : AreBounds l.key l.bounds
  pub entries_are : l.entries ≡ entries d rows l.key l.bounds
  pub by_end : IsByEnd l.entries l.by_end

-- the entries before a place in the order of ends end before this position
abbrev pub EndBefore : List Entry → List ℕ → ℕ → ℕ → Type 0
EndBefore es by_end position cursor = (k : ℕ) → k < cursor → (entry es (slice_index by_end k)).end < position

-- the place in the order of ends before which entries end before this position, and from which on they do not
pub record IsCursor (es : List Entry) (by_end : List ℕ) (position cursor : ℕ) : Type 0 where
  pub within : cursor ≤ length by_end
  pub before : EndBefore es by_end position cursor
  pub after : (k : ℕ) → cursor ≤ k → k < length by_end → position ≤ (entry es (slice_index by_end k)).end
