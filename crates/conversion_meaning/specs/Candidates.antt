-- The values of a span: docs/CONVERSION.md, "Values of a span".
use Rattle.std.specs.Prelude.{◌≡◌, ℕ, ℤ, ◌≤ℤ◌, Bool, not, List, Some, map, take}
use Rattle.std.specs.List.{flat_map}
use Rattle.mz_base.specs.Data.{DataLists, is_text}
use Rattle.mz_base.specs.declared.lattice.Candidate.{Candidate}
use Rattle.mz_base.specs.declared.lattice.Entry.{Entry}
use Rattle.mz_base.specs.declared.lattice.Span.{Span}
use Rattle.mz_base.specs.declared.user.UserRow.{UserRow}
use Rattle.conversion_meaning.specs.Firsts.{firsts}
use Rattle.conversion_meaning.specs.InOrder.{paths_in_order}
use Rattle.conversion_meaning.specs.Lattices.{entry}
use Rattle.conversion_meaning.specs.Paths.{path_cost}
use Rattle.conversion_meaning.specs.Values.{value_of}
use Rattle.conversion_meaning.specs.declared.candidates.TheConstants.{MOST_PATHS, MOST_VALUES}

-- the values of a path's entries, one after the other
abbrev pub path_value : DataLists → List UserRow → List ℕ → List Entry → List ℕ → List ℕ
path_value d rows key es path = flat_map (λ o. value_of d rows key (entry es o)) path

-- a path's value, with its cost
abbrev pub candidate_of : DataLists → List UserRow → List ℕ → List Entry → Span → List ℕ → Candidate
candidate_of d rows key es span path =
    record { value = path_value d rows key es path; cost = Some (path_cost d es span path) }

-- the other has another value
abbrev pub differs_from : Candidate → Candidate → Bool
differs_from candidate other = not (is_text candidate.value other.value)

-- of each value the first
abbrev pub first_of_each : List Candidate → List Candidate
first_of_each candidates = firsts differs_from candidates

-- The first values of a span: of the first paths in order, of each value the first, and of these the first.
unfoldable pub first_values : DataLists → List UserRow → List ℕ → List Entry → Span → List Candidate
first_values d rows key es span =
    take MOST_VALUES (first_of_each (map (candidate_of d rows key es span) (take MOST_PATHS (paths_in_order d es span))))

-- the cost of the later one is no less
abbrev pub CostsNoMore : Candidate → Candidate → Type 0
CostsNoMore candidate later =
    (x y : ℤ) → candidate.cost ≡ Some x → later.cost ≡ Some y → x ≤ℤ y
