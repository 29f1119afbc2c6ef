-- What the table of least costs says of the entries of a span.
use Rattle.std.specs.Prelude.{◌≡◌, ℕ, ◌<◌, ◌*◌, ℤ, pos, ◌+ℤ◌, true, List, [], ◌∷◌, length, slice_index_or, Option, Some, None}
use Rattle.mz_base.specs.Data.{DataLists}
use Rattle.mz_base.specs.declared.lattice.TheConstants.{MOST_KEY}
use Rattle.mz_base.specs.declared.lattice.Entry.{Entry}
use Rattle.mz_base.specs.declared.lattice.Span.{Span}
use Rattle.conversion_meaning.specs.Bounds.{IsWithin, most_step}
use Rattle.conversion_meaning.specs.Lattices.{entry}
use Rattle.conversion_meaning.specs.Potentials.{is_in}
use Rattle.lattice.specs.Begins.{IsBegin}
use Rattle.viterbi.specs.declared.table.Reached.{Reached}
use Rattle.viterbi.specs.Back.{IsFirstBack, cost_back}

abbrev pub no_reached : Reached
no_reached = record { cost = pos 0; before = None }

-- what the table says of an ordinal
abbrev pub reached : List Reached → ℕ → Reached
reached table o = slice_index_or table o no_reached

-- from this ordinal, or from none, the table leads back over these
abbrev pub IsTrail : List Reached → Option ℕ → List ℕ → Type 0
IsTrail table last [] = last ≡ None
IsTrail table last (o ∷ back) = (last ≡ Some o) × (o < length table) × IsTrail table (reached table o).before back

-- the table leads back over what is first, and this is its cost with that of the target itself
pub record IsReached (d : DataLists) (es : List Entry) (span : Span) (table : List Reached) (to lid : ℕ) (own : ℤ) (r : Reached) : Type 0 where
  pub back : List ℕ
  pub trail : IsTrail table r.before back
  pub first : IsFirstBack d es span to lid back
  pub cost_is : r.cost ≡ (cost_back d es span.left lid back +ℤ own)

-- the most that a cost in the table is from 0
abbrev pub most_reached : ℕ
most_reached = most_step * MOST_KEY

-- the table of these entries, as far as it goes
pub record IsTable (d : DataLists) (es : List Entry) (span : Span) (table : List Reached) : Type 0 where
  pub rows : (o : ℕ) → o < length table → is_in span (entry es o) ≡ true → IsReached d es span table (entry es o).begin (entry es o).lid (entry es o).cost (reached table o)
  pub small : (o : ℕ) → o < length table → IsWithin most_reached (reached table o).cost
  pub falls : (o before : ℕ) → o < length table → (reached table o).before ≡ Some before → before < o

-- the table of all entries that begin before the span ends
pub record IsWholeTable (d : DataLists) (es : List Entry) (span : Span) (table : List Reached) : Type 0 where
  pub all : IsBegin es span.end (length table)
  pub is : IsTable d es span table
