-- What a search has still to give, and what it keeps.
use Rattle.std.specs.Prelude.{◌≡◌, ⊤, ℕ, ◌-◌, ◌*◌, ◌<◌, ◌≤◌, ◌==◌, ℤ, pos, ◌+ℤ◌, ◌≤ℤ◌, Bool, true, false, not, ◌&&◌, List, [], ◌∷◌, ◌++◌, All, filter, length, map, nat_le, reverse, slice_index, slice_index_or, count_by, Option, Some, None, IfNone, IfSome}
use Rattle.std.specs.List.{list_any, slice_get}
use Rattle.std.specs.List.Sorted.{IsPermutation, IsSorted}
use Rattle.std.specs.Option.{option_map}
use Rattle.mz_base.specs.Data.{DataLists, connection}
use Rattle.mz_base.specs.declared.lattice.Entry.{Entry}
use Rattle.mz_base.specs.declared.lattice.Lattice.{Lattice}
use Rattle.mz_base.specs.declared.lattice.Span.{Span}
use Rattle.conversion_meaning.specs.Bounds.{IsWithin}
use Rattle.conversion_meaning.specs.InOrder.{paths_in_order}
use Rattle.conversion_meaning.specs.Lattices.{entry}
use Rattle.conversion_meaning.specs.Paths.{IsPathOver, IsSpan, path_cost}
use Rattle.conversion_meaning.specs.Potentials.{IsLeastCost, is_in}
use Rattle.viterbi.specs.Back.{IsWayBack, cost_back}
use Rattle.viterbi.specs.Table.{most_reached}
use Rattle.nbest.specs.Lists.{Listed}
use Rattle.nbest.specs.Tails.{Ending, IsFirstOf, begun_by, no_ending, sibling_cmp}
use Rattle.nbest.specs.declared.tail.Sibling.{Sibling}
use Rattle.nbest.specs.declared.join.Join.{Join}
use Rattle.nbest.specs.declared.found.Found.{Found}

-- a search: its span, the least costs of the entries by ordinal, the tails that it has not looked at, and what it has
-- sorted
pub record Search : Type 0 where
  pub span : Span
  pub costs : List ℤ
  pub queue : List Ending
  pub cache : List (Option Listed)

-- ---- What is still to come

-- the other list begins with this one
abbrev pub is_front : List ℕ → List ℕ → Bool
is_front [] other = true
is_front (o ∷ front) [] = false
is_front (o ∷ front) (x ∷ other) = (o == x) && is_front front other

-- the path ends with this tail
abbrev pub ends_so : List ℕ → Ending → Bool
ends_so path e = is_front e.ordinals (reverse path)

-- The paths that are still to come, in order: those of which a tail is in the queue.
unfoldable pub still_to_come : DataLists → List Entry → Search → List (List ℕ)
still_to_come d es s = filter (λ path. list_any (ends_so path) s.queue) (paths_in_order d es s.span)

-- a path that was found, with its cost
abbrev pub found_of : DataLists → List Entry → Span → List ℕ → Found
found_of d es span path = record { path = path; cost = path_cost d es span path }

-- the first of some paths, with its cost; none where there are none
abbrev pub first_found : DataLists → List Entry → Span → List (List ℕ) → Option Found
first_found d es span paths = option_map (found_of d es span) (slice_get paths 0)

-- ---- What is known of a tail

-- where its entries begin; the span's end for none
abbrev pub begin_of : List Entry → ℕ → List ℕ → ℕ
begin_of es to [] = to
begin_of es to (o ∷ tail) = begin_of es (entry es o).begin tail

-- the left id that what comes before them is joined to
abbrev pub lid_of : List Entry → ℕ → List ℕ → ℕ
lid_of es right [] = right
lid_of es right (o ∷ tail) = lid_of es (entry es o).lid tail

-- what they cost, with the connections between them and to the span's right id
abbrev pub rest_of : DataLists → List Entry → ℕ → List ℕ → ℤ
rest_of d es right [] = pos 0
rest_of d es right (o ∷ tail) =
    rest_of d es (entry es o).lid tail +ℤ ((entry es o).cost +ℤ connection d (entry es o).rid right)

-- the least cost of a path that ends with this tail
pub record IsEstimate (d : DataLists) (es : List Entry) (span : Span) (tail : List ℕ) (cost : ℤ) : Type 0 where
  pub reached : (before : List ℕ) × IsWayBack es span.begin (begin_of es span.end tail) before × (cost ≡ cost_back d es span.left span.right (tail ++ before))
  pub least : (before : List ℕ) → IsWayBack es span.begin (begin_of es span.end tail) before → cost ≤ℤ cost_back d es span.left span.right (tail ++ before)

-- its entries touch, up to the span's end, and lie in the span
pub record IsPart (es : List Entry) (span : Span) (tail : List ℕ) : Type 0 where
  pub way : IsWayBack es (begin_of es span.end tail) span.end tail
  pub low : span.begin ≤ begin_of es span.end tail

-- a tail with its estimate, of one entry at least
pub record IsTail (d : DataLists) (es : List Entry) (span : Span) (e : Ending) : Type 0 where
  pub some : 0 < length e.ordinals
  pub part : IsPart es span e.ordinals
  pub estimate : IsEstimate d es span e.ordinals e.estimate

-- ---- What a search keeps

-- the least costs of the entries of a span, by ordinal
pub record AreCosts (d : DataLists) (es : List Entry) (span : Span) (costs : List ℤ) : Type 0 where
  pub count : length costs ≡ length es
  pub least : (o : ℕ) → o < length es → is_in span (entry es o) ≡ true → IsLeastCost d es span o (slice_index_or costs o (pos 0))
  pub small : (o : ℕ) → o < length costs → IsWithin most_reached (slice_index_or costs o (pos 0))

-- ---- How tails grow

-- the tail does not begin with the span
abbrev pub lacks_entries : List Entry → Span → Ending → Bool
lacks_entries es span e = not (begin_of es span.end e.ordinals == span.begin)

-- the first tail does not
abbrev pub is_open : List Entry → Span → List Ending → Bool
is_open es span [] = false
is_open es span (e ∷ rest) = lacks_entries es span e

-- how a tail is joined to what comes before it
pub record IsJoin (d : DataLists) (es : List Entry) (span : Span) (tail : List ℕ) (join : Join) : Type 0 where
  pub begin_is : join.begin ≡ begin_of es span.end tail
  pub lid_is : join.lid ≡ lid_of es span.right tail
  pub rest_is : join.rest ≡ rest_of d es span.right tail

-- the same, within the bounds of what it is used for
pub record IsJoinOf (d : DataLists) (es : List Entry) (span : Span) (tail : List ℕ) (join : Join) : Type 0 where
  pub is : IsJoin d es span tail join
  pub lid : join.lid < d.ids
  pub rest : IsWithin most_reached join.rest

-- where an entry ends
abbrev pub end_of : List Entry → ℕ → ℕ
end_of es o = (entry es o).end

-- the entries of the span that end where a tail begins
abbrev pub ordinals_to : List Entry → List ℕ → Span → ℕ → List ℕ
ordinals_to es by_end span here =
    filter (λ o. ((entry es o).end == here) && nat_le span.begin (entry es o).begin) by_end

-- an entry that a tail can be longer by, and what it adds before this left id
abbrev pub sibling : DataLists → List Entry → List ℤ → ℕ → ℕ → Sibling
sibling d es costs lid o =
    record { added = slice_index_or costs o (pos 0) +ℤ connection d (entry es o).rid lid; ordinal = o }

-- all of them, in the order of ends
abbrev pub siblings : DataLists → Lattice → Span → List ℤ → ℕ → ℕ → List Sibling
siblings d l span costs begin lid =
    map (sibling d l.entries costs lid) (ordinals_to l.entries l.by_end span begin)

-- these are all, by what they add and then by ordinal
pub record AreSiblings (d : DataLists) (l : Lattice) (span : Span) (costs : List ℤ) (begin lid : ℕ) (ss : List Sibling) : Type 0 where
  pub are : IsPermutation (siblings d l span costs begin lid) ss
  pub order : IsSorted sibling_cmp ss
  pub small : All (λ (s : Sibling). IsWithin (2 * most_reached) s.added) ss

-- a tail with one entry more
abbrev pub with_entry : DataLists → List Entry → List ℤ → List ℕ → Join → ℕ → Ending
with_entry d es costs tail join o = begun_by tail join.rest (sibling d es costs join.lid o)

-- the tails that are longer by one entry
abbrev pub longer_tails : DataLists → Lattice → Span → List ℤ → List ℕ → Join → List Ending
longer_tails d l span costs tail join =
    map (with_entry d l.entries costs tail join) (ordinals_to l.entries l.by_end span join.begin)

-- what a slot keeps is so for its position and its left id
abbrev pub IsKept : DataLists → Lattice → Span → List ℤ → Option Listed → Type 0
IsKept d l span costs None = ⊤
IsKept d l span costs (Some k) = AreSiblings d l span costs k.begin k.lid k.siblings

abbrev pub AreKept : DataLists → Lattice → Span → List ℤ → List (Option Listed) → Type 0
AreKept d l span costs cache = All (IsKept d l span costs) cache

-- ---- A search as a whole

-- A search of a lattice: its costs, tails and lists are those of its span, and no path ends with two of its tails.
pub record IsSearch (d : DataLists) (l : Lattice) (s : Search) : Type 0 where
  pub span : IsSpan d l s.span
  pub costs : AreCosts d l.entries s.span s.costs
  pub tails : All (IsTail d l.entries s.span) s.queue
  pub once : (path : List ℕ) → IsPathOver l.entries s.span path → count_by (ends_so path) s.queue ≤ 1
  pub cache : AreKept d l s.span s.costs s.cache

-- these are the tails that are longer by one entry than the first
pub record AreLonger (d : DataLists) (l : Lattice) (s : Search) (tails : List Ending) : Type 0 where
  pub join : Join
  pub joins : IsJoin d l.entries s.span (slice_index_or s.queue 0 no_ending).ordinals join
  pub are : IsPermutation (longer_tails d l s.span s.costs (slice_index_or s.queue 0 no_ending).ordinals join) tails

-- a tail has an entry, and only such as there are
pub record AreThere (es : List Entry) (ordinals : List ℕ) : Type 0 where
  pub some : 0 < length ordinals
  pub inside : All (λ o. o < length es) ordinals

-- the ordinal of the first entry of a tail
abbrev pub first_of : List ℕ → ℕ
first_of ordinals = slice_index ordinals (length ordinals - 1)

-- the path of a whole tail, with its cost
abbrev pub found_from : Ending → Found
found_from e = record { path = reverse e.ordinals; cost = e.estimate }

-- a search that gave its first tail, or had none
pub record Gives (old new : Search) (found : Option Found) : Type 0 where
  pub span : new.span ≡ old.span
  pub costs : new.costs ≡ old.costs
  pub cache : new.cache ≡ old.cache
  pub none : IfNone found (new.queue ≡ old.queue × (old.queue ≡ []))
  pub some : IfSome found (λ f. (e : Ending) × IsFirstOf old.queue e × IsPermutation old.queue (e ∷ new.queue) × (f ≡ found_from e))
