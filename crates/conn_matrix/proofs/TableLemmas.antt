-- What a file's table has: a cost for each line, within the limits.
use Rattle.std.proofs.Common.{◌≡◌, ℕ, suc, zero, ◌+◌, ◌-◌, ◌*◌, ◌<◌, ℤ, pos, cond, true, false, eqb, List, [], ◌∷◌, ◌++◌, Option, Some, None, Ok, Err, length, get_or, option_to_list, refl, ap, sym, subst, ◌∙◌, append_assoc, append-nil, arith, add-zero}
use Rattle.std.specs.List.{list_all}
use Rattle.std.specs.Str.{is_utf8}
use Rattle.std.proofs.lemmas.Bool.Decides.{nat_tests}
use Rattle.std.proofs.lemmas.Nat.{mul-add-lt}
use Rattle.mz_base.specs.Answers.{◌>>=◌}
use Rattle.mz_base.specs.Limits.{is_cost}
use Rattle.mz_base.specs.Numbers.{signed_of, number_of}
use Rattle.mz_base.specs.Rows.{rows_after}
use Rattle.mz_base.specs.declared.fault.FaultKind.TheVariants.{NotUtf8, Range, Size, Count}
use Rattle.mz_base.proofs.LimitLemmas.{IsCost-from_test}
use Rattle.conn_matrix.specs.Costs.{CostTable, IsTable, StandOnTheirLines, table_in, squared, size_on, size_from, is_size, cost_from, cost_on, cost_row, costs_in, is_empty, filled}
use Rattle.conn_matrix.specs.declared.reader.TheConstants.{FIRST_COST_LINE}

-- each line, numbered from here, has the cost at its place
abbrev AreOn : ℕ → List (List ℕ) → List ℤ → Type 0
AreOn n [] [] = Unit {0}
AreOn n [] (cost ∷ costs) = ⊥
AreOn n (line ∷ lines) [] = ⊥
AreOn n (line ∷ lines) (cost ∷ costs) = (cost_on n line ≡ Ok cost) × AreOn (n + 1) lines costs

-- the costs that are read stand on the lines
AreOn-read : (costs : List ℤ) (n : ℕ) (lines : List (List ℕ)) (all : List ℤ) → rows_after cost_row costs n lines ≡ Ok all → (more : List ℤ) × (all ≡ costs ++ more) × AreOn n lines more
AreOn-read costs n [] all is = ([], (let same : costs ≡ all = cc in sym same ∙ sym (append-nil costs)), tt)
AreOn-read costs n (line ∷ lines) all is =
    elim (cost_on n line) as (λ given. cost_on n line ≡ given → (given >>= (λ cost. Ok (Some cost)) >>= (λ cost. rows_after cost_row (costs ++ option_to_list cost) (n + 1) lines)) ≡ Ok all → (more : List ℤ) × (all ≡ costs ++ more) × AreOn n (line ∷ lines) more) [
      | Ok cost ↦ λ given rest. (
          let (more, same, on) = AreOn-read (costs ++ cost ∷ []) (n + 1) lines all rest in
          (cost ∷ more, same ∙ append_assoc costs (cost ∷ []) more, (given, on))
          )
      | Err kind ↦ λ given rest. absurd (cc)
    ] refl is

AreOn-at : (n : ℕ) (lines : List (List ℕ)) (costs : List ℤ) (k : ℕ) → AreOn n lines costs → k < length costs → cost_on (n + k) (get_or lines k []) ≡ Ok (get_or costs k (pos 0))
AreOn-at n [] [] k on inside = absurd (omega arith)
AreOn-at n [] (cost ∷ costs) k on inside = absurd on
AreOn-at n (line ∷ lines) [] k on inside = absurd on
AreOn-at n (line ∷ lines) (cost ∷ costs) zero on inside = rw add-zero on.0
AreOn-at n (line ∷ lines) (cost ∷ costs) (suc k) on inside =
    let number : n + 1 + k ≡ n + suc k = omega arith in
    ap (λ m. cost_on m (get_or lines k [])) (sym number) ∙ AreOn-at (n + 1) lines costs k on.1 (omega arith)

-- what counts of the lines is a front of them
front_at : (line : List ℕ) (lines : List (List ℕ)) (k : ℕ) → ((j : ℕ) → j < length (filled lines) → get_or (filled lines) j [] ≡ get_or lines j []) → k < length (line ∷ filled lines) → get_or (line ∷ filled lines) k [] ≡ get_or (line ∷ lines) k []
front_at line lines zero later inside = refl
front_at line lines (suc j) later inside = later j (omega arith)

get_or-filled : (lines : List (List ℕ)) (k : ℕ) → k < length (filled lines) → get_or (filled lines) k [] ≡ get_or lines k []
get_or-filled [] k inside = refl
get_or-filled (line ∷ lines) k inside =
    elim (list_all is_empty (line ∷ lines)) as (λ all. k < length (cond all [] (line ∷ filled lines)) → get_or (cond all [] (line ∷ filled lines)) k [] ≡ get_or (line ∷ lines) k []) [
      | true ↦ λ within. absurd (omega arith)
      | false ↦ λ within. front_at line lines k (get_or-filled lines) within
    ] inside

length-AreOn : (n : ℕ) (lines : List (List ℕ)) (costs : List ℤ) → AreOn n lines costs → length costs ≡ length lines
length-AreOn n [] [] on = refl
length-AreOn n [] (cost ∷ costs) on = absurd on
length-AreOn n (line ∷ lines) [] on = absurd on
length-AreOn n (line ∷ lines) (cost ∷ costs) on = ap suc (length-AreOn (n + 1) lines costs on.1)

-- the costs that are read of a file stand on its lines
costs_in-at : (lines : List (List ℕ)) (costs : List ℤ) (k : ℕ) → costs_in lines ≡ Ok costs → k < length costs → cost_on (FIRST_COST_LINE + k) (get_or lines k []) ≡ Ok (get_or costs k (pos 0))
costs_in-at lines costs k read inside =
    let (more, same, on) = AreOn-read [] FIRST_COST_LINE (filled lines) costs read in
    let all : costs ≡ more = same in
    let here : k < length (filled lines) = omega (arith, length-AreOn FIRST_COST_LINE (filled lines) more on, ap length all) in
    let there : k < length more = omega (arith, ap length all) in
    ap (cost_on (FIRST_COST_LINE + k)) (sym (get_or-filled lines k here))
    ∙ AreOn-at FIRST_COST_LINE (filled lines) more k on there
    ∙ ap (λ xs. Ok (get_or xs k (pos 0))) (sym all)

-- what the first line and the lines after it give
pub record IsRead (first : List ℕ) (rest : List (List ℕ)) (table : CostTable) : Type 0 where
  pub size : size_on first ≡ Ok table.size
  pub costs : costs_in rest ≡ Ok table.costs
  pub whole : length table.costs ≡ table.size * table.size

IsRead-squared : (first : List ℕ) (rest : List (List ℕ)) (table : CostTable) (size : ℕ) (costs : List ℤ) → size_on first ≡ Ok size → costs_in rest ≡ Ok costs → squared size costs ≡ Ok table → IsRead first rest table
IsRead-squared first rest table size costs sized read is =
    elim (eqb (length costs) (size * size)) as (λ t. eqb (length costs) (size * size) ≡ t → cond t (Ok (record { size = size; costs = costs })) (Err (Count (size * size) (length costs))) ≡ Ok table → IsRead first rest table) [
      | true ↦ λ whole same. (
          let made : (record { size = size; costs = costs }) ≡ table = cc in
          let P : CostTable → Type 0 = λ t. IsRead first rest t in
          subst P made (record { size = sized; costs = read; whole = grind (arith, nat_tests, whole) })
          )
      | false ↦ λ whole same. absurd (cc)
    ] refl is

IsRead-from : (first : List ℕ) (rest : List (List ℕ)) (table : CostTable) → table_in (first ∷ rest) ≡ Ok table → IsRead first rest table
unfolding table_in
IsRead-from first rest table is =
    elim (size_on first) as (λ size. size_on first ≡ size → (size >>= (λ n. costs_in rest >>= (λ costs. squared n costs))) ≡ Ok table → IsRead first rest table) [
      | Ok size ↦ λ sized same. (
          elim (costs_in rest) as (λ costs. costs_in rest ≡ costs → (costs >>= (λ cs. squared size cs)) ≡ Ok table → IsRead first rest table) [
            | Ok costs ↦ λ read made. IsRead-squared first rest table size costs sized read made
            | Err kind ↦ λ read made. absurd (cc)
          ] refl same
          )
      | Err kind ↦ λ sized same. absurd (cc)
    ] refl is

-- the size of a table that is read
is_size-on : (line : List ℕ) (size : ℕ) → size_on line ≡ Ok size → is_size size ≡ true
is_size-on line size is =
    elim (is_utf8 line) as (λ t. cond t (size_from (number_of line)) (Err (NotUtf8 1)) ≡ Ok size → is_size size ≡ true) [
      | true ↦ λ same. from_number (number_of line) same
      | false ↦ λ same. absurd (cc)
    ] is
  where
    from_number : (number : Option ℕ) → size_from number ≡ Ok size → is_size size ≡ true
    from_number None same = absurd (cc)
    from_number (Some n) same =
        elim (is_size n) as (λ t. is_size n ≡ t → cond t (Ok n) (Err Size) ≡ Ok size → is_size size ≡ true) [
          | true ↦ λ tested made. (let same_size : n ≡ size = cc in rw same_size at tested)
          | false ↦ λ tested made. absurd (cc)
        ] refl same

-- a cost that is read
is_cost-on : (number : ℕ) (line : List ℕ) (cost : ℤ) → cost_on number line ≡ Ok cost → is_cost cost ≡ true
is_cost-on number line cost is =
    elim (is_utf8 line) as (λ t. cond t (cost_from number (signed_of 10 line)) (Err (NotUtf8 number)) ≡ Ok cost → is_cost cost ≡ true) [
      | true ↦ λ same. from_signed (signed_of 10 line) same
      | false ↦ λ same. absurd (cc)
    ] is
  where
    from_signed : (signed : Option ℤ) → cost_from number signed ≡ Ok cost → is_cost cost ≡ true
    from_signed None same = absurd (cc)
    from_signed (Some n) same =
        elim (is_cost n) as (λ t. is_cost n ≡ t → cond t (Ok n) (Err (Range number)) ≡ Ok cost → is_cost cost ≡ true) [
          | true ↦ λ tested made. (let same_cost : n ≡ cost = cc in rw same_cost at tested)
          | false ↦ λ tested made. absurd (cc)
        ] refl same

-- the place of a pair
place_inside : (table : CostTable) (r l : ℕ) → r < table.size → l < table.size → length table.costs ≡ table.size * table.size → r * table.size + l < length table.costs
place_inside table r l right left whole = rw whole (mul-add-lt r table.size l table.size right left)

no_table : (table : CostTable) → table_in [] ≡ Ok table → ⊥
unfolding table_in
no_table table same = cc

pub StandOnTheirLines-read : (lines : List (List ℕ)) (table : CostTable) → table_in lines ≡ Ok table → StandOnTheirLines lines table
StandOnTheirLines-read (first ∷ rest) table is r l right left =
    let read = IsRead-from first rest table is in
    let k = r * table.size + l in
    let after_first : FIRST_COST_LINE + k - 1 ≡ suc k = omega arith in
    rw after_first (costs_in-at rest table.costs k read.costs (place_inside table r l right left read.whole))
StandOnTheirLines-read [] table is r l right left = absurd (no_table table is)

pub IsTable-read : (lines : List (List ℕ)) (table : CostTable) → table_in lines ≡ Ok table → IsTable table
unfolding table_in
IsTable-read [] table is = absurd (cc)
IsTable-read (first ∷ rest) table is =
    let read = IsRead-from first rest table is in
    let sized = is_size-on first table.size read.size in
    record {
      some = grind (arith, nat_tests, sized);
      square = record { few = grind (arith, nat_tests, sized); whole = read.whole };
      small = λ r l right left. IsCost-from_test _ (is_cost-on _ _ _ (costs_in-at rest table.costs (r * table.size + l) read.costs (place_inside table r l right left read.whole)));
    }
