-- What a matrix keeps: its costs in one of two forms.
use Rattle.std.specs.Prelude.{◌≡◌, ℕ, ◌+◌, ◌*◌, ◌/◌, ◌%◌, ℤ, pos, Bool, true, false, List, length, map, slice_index_or}
use Rattle.std.specs.List.{range_with_len}
use Rattle.conn_matrix.specs.Costs.{IsSquare, are_small}
use Rattle.conn_matrix.specs.declared.kept.KeptCosts.{KeptCosts}
use Rattle.conn_matrix.specs.declared.kept.KeptCosts.TheVariants.{Small, Wide}

-- the place of a pair where costs go by the one id first, from its place where they go by the other
abbrev pub turned_place : ℕ → ℕ → ℕ
turned_place size place = place % size * size + place / size

-- the cost that stands at this place where costs go by the other id first
abbrev pub across : ℕ → List ℤ → ℕ → ℤ
across size costs place = slice_index_or costs (turned_place size place) (pos 0)

-- the costs of a square by the other id first
abbrev pub turned : ℕ → List ℤ → List ℤ
turned size costs = map (across size costs) (range_with_len 0 (length costs))

-- the costs that are kept, by right id and then by left id
abbrev pub rows_of : ℕ → KeptCosts → List ℤ
rows_of size (Small costs) = turned size costs.items
rows_of size (Wide costs) = costs.items

abbrev pub is_small_form : KeptCosts → Bool
is_small_form (Small costs) = true
is_small_form (Wide costs) = false

-- a square of costs, in the smaller form exactly where each of them fits
pub record IsKept (size : ℕ) (kept : KeptCosts) : Type 0 where
  pub square : IsSquare size (rows_of size kept)
  pub form : is_small_form kept ≡ are_small (rows_of size kept)
