-- Costs by the other id first.
use Rattle.std.proofs.Common.{◌≡◌, ℕ, ◌+◌, ◌*◌, ◌/◌, ◌%◌, ◌<◌, ◌≤◌, ℤ, pos, true, Vec, Global, List, [], ◌∷◌, ◌++◌, length, map, get_or, ap, sym, ◌∙◌, zero, suc, arith, zero-add, refl}
use Rattle.std.specs.List.{range_with_len}
use Rattle.std.proofs.Math.Nat.{mul-add-div_right, mul-add-mod_self_right, mod-eq_of_lt, div-eq_of_lt, mod-lt, div-lt_iff_lt-mul, div-add-mod, mul_comm, mul-le-mul}
use Rattle.std.proofs.lemmas.Nat.{mul-add-lt}
use Rattle.std.proofs.lemmas.Int.{to_z-of_z}
use mir.Syntax.{Width}
use mir.Val.{SFits, to_z, of_z}
use Rattle.std.proofs.lemmas.List.{ext_get_or}
use Rattle.std.proofs.lemmas.List.FromFn.{get_or-map-range_with_len, length-map-range_with_len, map-range_with_len_more}
use Rattle.conn_matrix.specs.Columns.{across, turned, turned_place, rows_of, is_small_form, IsKept}
use Rattle.conn_matrix.specs.Costs.{IsSquare, are_small, bytes_of, cost_at}
use Rattle.conn_matrix.specs.declared.kept.KeptCosts.{KeptCosts}
use Rattle.conn_matrix.specs.declared.kept.KeptCosts.TheVariants.{Small}
use Rattle.conn_matrix.specs.declared.limits.TheConstants.{MOST_BYTES}

-- the place of a pair
turned_place-pair : (size r l : ℕ) → l < size → turned_place size (r * size + l) ≡ l * size + r
turned_place-pair size r l left =
    let left_id : (r * size + l) % size ≡ l = mul-add-mod_self_right r size l ∙ mod-eq_of_lt left in
    let right_id : (r * size + l) / size ≡ r = mul-add-div_right (omega arith) r l ∙ ap (λ n. r + n) (div-eq_of_lt left) ∙ omega arith in
    rw (left_id, right_id) refl

-- of a square each place is that of a pair
right_id : (size place : ℕ) → place < size * size → place / size < size
right_id size place inside = (div-lt_iff_lt-mul (some_id size place inside)).1 inside
  where
    some_id : (size place : ℕ) → place < size * size → 0 < size
    some_id zero place within = absurd (omega arith)
    some_id (suc n) place within = omega arith

left_id : (size place : ℕ) → place < size * size → place % size < size
left_id size place inside = mod-lt place (omega (arith, right_id size place inside))

turned_place-inside : (size place : ℕ) → place < size * size → turned_place size place < size * size
turned_place-inside size place inside = mul-add-lt (place % size) size (place / size) size (left_id size place inside) (right_id size place inside)

turned_place-turned : (size place : ℕ) → place < size * size → turned_place size (turned_place size place) ≡ place
turned_place-turned size place inside =
    turned_place-pair size (place % size) (place / size) (right_id size place inside) ∙ ap (λ n. n + place % size) (mul_comm (place / size) size) ∙ div-add-mod place size

pub length-turned : (size : ℕ) (costs : List ℤ) → length (turned size costs) ≡ length costs
length-turned size costs = length-map-range_with_len (across size costs) 0 (length costs)

get_or-turned : (size : ℕ) (costs : List ℤ) (place : ℕ) → place < length costs → get_or (turned size costs) place (pos 0) ≡ across size costs place
get_or-turned size costs place inside =
    get_or-map-range_with_len (across size costs) 0 (length costs) place place (pos 0) inside (zero-add place)

-- one more cost, which is pushed as a number of its width
pub turned_more : (size : ℕ) (costs built : List ℤ) (place : ℕ) (w : Width) (cost : ℤ) → SFits w cost → cost ≡ across size costs place → built ≡ map (across size costs) (range_with_len 0 place) → built ++ to_z w (of_z w cost) ∷ [] ≡ map (across size costs) (range_with_len 0 (place + 1))
turned_more size costs built place w cost fits is so_far =
    ap (λ z. built ++ z ∷ []) (to_z-of_z w cost fits ∙ is)
    ∙ ap (λ list. list ++ across size costs place ∷ []) so_far
    ∙ sym (map-range_with_len_more (across size costs) 0 place place (zero-add place))

-- costs that are turned twice are as they were
pub turned-turned : (size : ℕ) (costs : List ℤ) → length costs ≡ size * size → turned size (turned size costs) ≡ costs
turned-turned size costs whole = ext_get_or (pos 0) (turned size (turned size costs)) costs same_length (λ place within. same_cost place (rw same_length at within))
  where
    same_length : length (turned size (turned size costs)) ≡ length costs
    same_length = length-turned size (turned size costs) ∙ length-turned size costs

    same_cost : (place : ℕ) → place < length costs → get_or (turned size (turned size costs)) place (pos 0) ≡ get_or costs place (pos 0)
    same_cost place within =
        let square : place < size * size = rw (← whole) within in
        let there : turned_place size place < length costs = rw whole (turned_place-inside size place square) in
        get_or-turned size (turned size costs) place (rw (length-turned size costs) within)
        ∙ get_or-turned size costs (turned_place size place) there
        ∙ ap (λ n. get_or costs n (pos 0)) (turned_place-turned size place square)

module _ (size : ℕ) (columns : List ℤ) (square : IsSquare size (turned size columns)) (r l : ℕ) (right : r < size) (left : l < size) where
  whole : length columns ≡ size * size
  whole = sym (length-turned size columns) ∙ square.whole

  -- the place of a pair by left id and then by right id
  pub inside_columns : l * size + r < length columns
  inside_columns = rw whole (mul-add-lt l size r size left right)

  -- the cost of a pair
  pub cost_at-turned : get_or columns (l * size + r) (pos 0) ≡ cost_at (record { size = size; costs = turned size columns }) r l
  cost_at-turned =
      let inside : r * size + l < length columns = rw whole (mul-add-lt r size l size right left) in
      ap (λ n. get_or columns n (pos 0)) (sym (turned_place-pair size r l left)) ∙ sym (get_or-turned size columns (r * size + l) inside)

-- what the smaller form keeps
module _ (size : ℕ) (kept : KeptCosts) (columns : Vec ℤ Global) (is : kept ≡ Small columns) (invariant : IsKept size kept) where
  pub small_rows : rows_of size kept ≡ turned size columns.items
  small_rows = ap (rows_of size) is

  pub square_rows : IsSquare size (turned size columns.items)
  square_rows = rw (← small_rows) invariant.square

  small_length : length columns.items ≡ length (rows_of size kept)
  small_length = sym (ap length small_rows ∙ length-turned size columns.items)

  pub square_columns : IsSquare size columns.items
  square_columns = record { few = invariant.square.few; whole = small_length ∙ invariant.square.whole }

  pub bytes_of-small : 2 * length columns.items ≡ bytes_of (record { size = size; costs = rows_of size kept })
  bytes_of-small =
      let small : are_small (rows_of size kept) ≡ true = sym invariant.form ∙ ap is_small_form is in
      rw (small, small_length) refl

-- no square has more costs than each id of the most has with each
pub few_costs : (size : ℕ) (costs : List ℤ) → IsSquare size costs → 4 * length costs ≤ MOST_BYTES
few_costs size costs square = omega (arith, square.whole, mul-le-mul square.few square.few)
