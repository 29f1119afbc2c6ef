-- The costs of connections and the file that has them: docs/FORMATS.md, "Connection costs".
use Rattle.std.specs.Prelude.{◌≡◌, ℕ, ◌+◌, ◌-◌, ◌*◌, ◌<◌, ◌≤◌, ℤ, pos, negsuc, Bool, ◌&&◌, ◌==◌, List, [], ◌∷◌, Option, Some, None, Result, Ok, Err, if◌then◌else◌, length, nat_le, int_le, slice_index_or}
use Rattle.std.specs.List.{list_all}
use Rattle.std.specs.Str.{is_utf8}
use Rattle.mz_base.specs.Answers.{◌>>=◌}
use Rattle.mz_base.specs.Data.{IsCost}
use Rattle.mz_base.specs.Limits.{is_cost}
use Rattle.mz_base.specs.Numbers.{number_of, signed_of}
use Rattle.mz_base.specs.Rows.{rows_after}
use Rattle.mz_base.specs.declared.fault.FaultKind.{FaultKind}
use Rattle.mz_base.specs.declared.fault.FaultKind.TheVariants.{NotUtf8, Number, Range, Size, Count}
use Rattle.mz_base.specs.declared.data.TheConstants.{MOST_IDS}
use Rattle.conn_matrix.specs.declared.reader.TheConstants.{FIRST_COST_LINE}

-- the number of ids, and the costs by right id and then by left id
pub record CostTable : Type 0 where
  pub size : ℕ
  pub costs : List ℤ

-- each right id has a cost with each left id
pub record IsSquare (size : ℕ) (costs : List ℤ) : Type 0 where
  pub few : size ≤ MOST_IDS
  pub whole : length costs ≡ size * size

-- the cost is a number of 16 bits
abbrev pub fits_16_bits : ℤ → Bool
fits_16_bits cost = int_le (negsuc 32767) cost && int_le cost (pos 32767)

-- each cost is a number of 16 bits
abbrev pub are_small : List ℤ → Bool
are_small costs = list_all fits_16_bits costs

-- the bytes that a table takes in memory: two a cost where all are numbers of 16 bits, else four
abbrev pub bytes_of : CostTable → ℕ
bytes_of table = (if are_small table.costs then 2 else 4) * length table.costs

-- the cost of a word with the right id r before one with the left id l
abbrev pub cost_at : CostTable → ℕ → ℕ → ℤ
cost_at table r l = slice_index_or table.costs (r * table.size + l) (pos 0)

abbrev pub is_size : ℕ → Bool
is_size size = nat_le 1 size && nat_le size MOST_IDS

abbrev pub size_from : Option ℕ → Result ℕ FaultKind
size_from None = Err Size
size_from (Some size) = if is_size size then Ok size else Err Size

-- the size that the first line has
abbrev pub size_on : List ℕ → Result ℕ FaultKind
size_on line = if is_utf8 line then size_from (number_of line) else Err (NotUtf8 1)

abbrev pub cost_from : ℕ → Option ℤ → Result ℤ FaultKind
cost_from number None = Err (Number number)
cost_from number (Some cost) = if is_cost cost then Ok cost else Err (Range number)

-- the cost that the line with this number has
abbrev pub cost_on : ℕ → List ℕ → Result ℤ FaultKind
cost_on number line = if is_utf8 line then cost_from number (signed_of 10 line) else Err (NotUtf8 number)

abbrev pub cost_row : List ℤ → ℕ → List ℕ → Result (Option ℤ) FaultKind
cost_row costs number line = cost_on number line >>= (λ cost. Ok (Some cost))

abbrev pub is_empty : List ℕ → Bool
is_empty line = length line == 0

-- the lines up to the last that is not empty
abbrev pub filled : List (List ℕ) → List (List ℕ)
filled [] = []
filled (line ∷ lines) = if list_all is_empty (line ∷ lines) then [] else line ∷ filled lines

-- the costs of the lines after the first, of which empty ones at the end do not count
abbrev pub costs_in : List (List ℕ) → Result (List ℤ) FaultKind
costs_in lines = rows_after cost_row [] FIRST_COST_LINE (filled lines)

-- a table of this size, where there is a cost for each pair
abbrev pub squared : ℕ → List ℤ → Result CostTable FaultKind
squared size costs =
    if length costs == size * size then Ok (record { size = size; costs = costs }) else Err (Count (size * size) (length costs))

-- the table that the lines of a file give, or their first fault
unfoldable pub table_in : List (List ℕ) → Result CostTable FaultKind
table_in [] = Err Size
table_in (first ∷ lines) = size_on first >>= (λ size. costs_in lines >>= (λ costs. squared size costs))

-- a table of at least one id, each cost within its limits
pub record IsTable (table : CostTable) : Type 0 where
  pub some : 0 < table.size
  pub square : IsSquare table.size table.costs
  pub small : (r l : ℕ) → r < table.size → l < table.size → IsCost (cost_at table r l)

-- the number of the line on which the cost of a pair stands
abbrev pub line_of_pair : CostTable → ℕ → ℕ → ℕ
line_of_pair table r l = FIRST_COST_LINE + (r * table.size + l)

-- each pair's cost is the one on its line
abbrev pub StandOnTheirLines : List (List ℕ) → CostTable → Type 0
StandOnTheirLines lines table =
    (r l : ℕ) → r < table.size → l < table.size → cost_on (line_of_pair table r l) (slice_index_or lines (line_of_pair table r l - 1) []) ≡ Ok (cost_at table r l)
