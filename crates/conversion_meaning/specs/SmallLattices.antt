-- Small lattices that are written by hand, and tests that compute whether one is well formed.
use Rattle.std.specs.Prelude.{ℕ, ◌+◌, ◌==◌, ℤ, Bool, true, not, ◌&&◌, ◌||◌, List, [], ◌∷◌, length, map, nat_le, nat_lt}
use Rattle.std.specs.List.{list_all, list_any, range_with_len}
use Rattle.mz_base.specs.Limits.{is_cost}
use Rattle.mz_base.specs.declared.lattice.Entry.{Entry}
use Rattle.mz_base.specs.declared.lattice.Lattice.{Lattice}
use Rattle.mz_base.specs.declared.lattice.Source.TheVariants.{Char}
use Rattle.mz_base.specs.declared.lattice.TheConstants.{MOST_KEY}
use Rattle.conversion_meaning.specs.Lattices.{entry}

-- an entry with one id on both sides: begin, end, id and cost
abbrev pub small_entry : ℕ × ℕ × ℕ × ℤ → Entry
small_entry (begin, end, id, cost) =
    record { begin = begin; end = end; lid = id; rid = id; cost = cost; source = Char }

-- a lattice of these entries, without bounds
abbrev pub small_lattice : List ℕ → List (ℕ × ℕ × ℕ × ℤ) → List ℕ → Lattice
small_lattice key rows by_end =
    record { key = key; bounds = []; entries = map small_entry rows; by_end = by_end }

-- each element is related to all later ones
abbrev pub rises : {X : Type 0} → (X → X → Bool) → List X → Bool
rises r [] = true
rises r (x ∷ xs) = list_all (r x) xs && rises r xs

-- the tests of an entry, of an order of entries, of an order of ends, and of a character
abbrev pub is_entry : ℕ → ℕ → Entry → Bool
is_entry ids length e =
    (nat_lt e.begin e.end && nat_le e.end length) && ((nat_lt e.lid ids && nat_lt e.rid ids) && is_cost e.cost)

abbrev pub is_in_order : Entry → Entry → Bool
is_in_order e later = nat_le e.begin later.begin && (not (e.begin == later.begin) || nat_le e.end later.end)

abbrev pub is_in_end_order : List Entry → ℕ → ℕ → Bool
is_in_end_order es ordinal later =
    nat_le (entry es ordinal).end (entry es later).end && (not ((entry es ordinal).end == (entry es later).end) || nat_lt ordinal later)

abbrev pub has_character : List Entry → ℕ → Bool
has_character es position = list_any (λ (e : Entry). (e.begin == position) && (e.end == position + 1)) es

-- the order of ends has each ordinal once
abbrev pub is_by_end : List Entry → List ℕ → Bool
is_by_end es by_end =
    ((length by_end == length es) && list_all (λ o. nat_lt o (length es)) by_end) && (list_all (λ o. list_any (λ x. x == o) by_end) (range_with_len 0 (length es)) && rises (is_in_end_order es) by_end)

-- a lattice without bounds is well formed for a data set with so many ids
abbrev pub is_well : ℕ → List ℕ → List Entry → List ℕ → Bool
is_well ids key es by_end =
    ((nat_lt 0 (length key) && nat_le (length key) MOST_KEY) && (list_all (is_entry ids (length key)) es && rises is_in_order es)) && (list_all (has_character es) (range_with_len 0 (length key)) && is_by_end es by_end)
