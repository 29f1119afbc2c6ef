-- The laws of paths in order, of answers and of the values of a span.
use Rattle.std.specs.Prelude.{◌≡◌, ◌≢◌, ℕ, ◌≤◌, ℤ, List, length, All, AllPairs, Contains}
use Rattle.mz_base.specs.Data.{DataLists, AreDataSound}
use Rattle.mz_base.specs.declared.lattice.Candidate.{Candidate}
use Rattle.mz_base.specs.declared.lattice.Certificate.{Certificate}
use Rattle.mz_base.specs.declared.lattice.Entry.{Entry}
use Rattle.mz_base.specs.declared.lattice.Lattice.{Lattice}
use Rattle.mz_base.specs.declared.lattice.Span.{Span}
use Rattle.mz_base.specs.declared.user.UserRow.{UserRow}
use Rattle.conversion_meaning.specs.Answers.{first_answer, least_costs}
use Rattle.conversion_meaning.specs.Best.{IsBest}
use Rattle.conversion_meaning.specs.Candidates.{CostsNoMore, first_values}
use Rattle.conversion_meaning.specs.InOrder.{best_path, paths_in_order}
use Rattle.conversion_meaning.specs.Lattices.{IsLatticeOf, IsWellFormed}
use Rattle.conversion_meaning.specs.Order.{IsBefore}
use Rattle.conversion_meaning.specs.Paths.{IsPathOver, IsSpan, path_cost, whole}
use Rattle.conversion_meaning.specs.Potentials.{AreLeastCosts}
use Rattle.conversion_meaning.specs.declared.candidates.TheConstants.{MOST_VALUES}

-- ---- All paths in order

-- the list has each path over the span
abbrev pub PathsAreInOrder : Type 0
PathsAreInOrder =
    (d : DataLists) (l : Lattice) (span : Span) (path : List ℕ) → IsWellFormed d l → IsPathOver l.entries span path → Contains (paths_in_order d l.entries span) path

-- and nothing else
abbrev pub InOrderArePaths : Type 0
InOrderArePaths =
    (d : DataLists) (es : List Entry) (span : Span) → All (IsPathOver es span) (paths_in_order d es span)

-- and no path twice
abbrev pub InOrderAreOnce : Type 0
InOrderAreOnce =
    (d : DataLists) (es : List Entry) (span : Span) → AllPairs (λ p q. p ≢ q) (paths_in_order d es span)

-- each is before all later ones
abbrev pub InOrderRises : Type 0
InOrderRises =
    (d : DataLists) (es : List Entry) (span : Span) → AllPairs (IsBefore d es span) (paths_in_order d es span)

-- a list that has each path over the span and nothing else, each before all later ones, is this one
abbrev pub InOrderIsOne : Type 0
InOrderIsOne =
    (d : DataLists) (l : Lattice) (span : Span) (paths : List (List ℕ)) → IsWellFormed d l → ((path : List ℕ) → IsPathOver l.entries span path → Contains paths path) → All (IsPathOver l.entries span) paths → AllPairs (IsBefore d l.entries span) paths → paths ≡ paths_in_order d l.entries span

-- ---- The best path and the least costs, as functions

-- the first of them is the best path
abbrev pub FirstIsBest : Type 0
FirstIsBest =
    (d : DataLists) (l : Lattice) (span : Span) → IsWellFormed d l → IsSpan d l span → IsBest d l.entries span (best_path d l.entries span)

-- and what is the best path is the first
abbrev pub BestIsFirst : Type 0
BestIsFirst =
    (d : DataLists) (l : Lattice) (span : Span) (path : List ℕ) → IsWellFormed d l → IsBest d l.entries span path → path ≡ best_path d l.entries span

-- the least costs of a span are least costs
abbrev pub LeastCostsAreLeast : Type 0
LeastCostsAreLeast =
    (d : DataLists) (l : Lattice) (span : Span) → IsWellFormed d l → IsSpan d l span → AreLeastCosts d l.entries span (least_costs d l.entries span)

-- and what are least costs are they
abbrev pub LeastCostsAreOne : Type 0
LeastCostsAreOne =
    (d : DataLists) (l : Lattice) (span : Span) (potentials : List ℤ) → IsWellFormed d l → IsSpan d l span → AreLeastCosts d l.entries span potentials → potentials ≡ least_costs d l.entries span

-- ---- Answers

-- what the first answer to a lattice is: the bounds, the best path over the whole key, its cost and the least costs
pub record IsFirstAnswer (d : DataLists) (l : Lattice) (c : Certificate) : Type 0 where
  pub same_bounds : c.bounds ≡ l.bounds
  pub best : IsBest d l.entries (whole l 0) c.path
  pub least : AreLeastCosts d l.entries (whole l 0) c.potentials
  pub total_is : c.total ≡ path_cost d l.entries (whole l 0) c.path

-- the first answer is one
abbrev pub FirstAnswerIsFirst : Type 0
FirstAnswerIsFirst =
    (d : DataLists) (rows : List UserRow) (l : Lattice) → AreDataSound d → IsLatticeOf d rows l → IsFirstAnswer d l (first_answer d rows l.key l.bounds)

-- and what is one is the first answer
abbrev pub FirstAnswerIsOne : Type 0
FirstAnswerIsOne =
    (d : DataLists) (rows : List UserRow) (l : Lattice) (c : Certificate) → AreDataSound d → IsLatticeOf d rows l → IsFirstAnswer d l c → c ≡ first_answer d rows l.key l.bounds

-- ---- The values of a span

-- no value comes twice
abbrev pub ValuesAreOnce : Type 0
ValuesAreOnce =
    (d : DataLists) (rows : List UserRow) (key : List ℕ) (es : List Entry) (span : Span) → AllPairs (λ (candidate later : Candidate). candidate.value ≢ later.value) (first_values d rows key es span)

-- and costs never fall
abbrev pub ValueCostsRise : Type 0
ValueCostsRise =
    (d : DataLists) (rows : List UserRow) (key : List ℕ) (es : List Entry) (span : Span) → AllPairs CostsNoMore (first_values d rows key es span)

-- they are no more than the most
abbrev pub ValuesAreFew : Type 0
ValuesAreFew =
    (d : DataLists) (rows : List UserRow) (key : List ℕ) (es : List Entry) (span : Span) → length (first_values d rows key es span) ≤ MOST_VALUES
