-- One line more of the costs of a connection file.
use Rattle.std.proofs.Common.{◌≡◌, ℕ, ◌+◌, ℤ, Bool, cond, true, false, List, [], ◌∷◌, ◌++◌, Some, Result, Ok, Err, length, option_to_list, refl, ap, ◌∙◌, length-append, arith}
use Rattle.std.specs.List.{list_all}
use Rattle.std.proofs.lemmas.Bool.Decides.{nat_tests}
use Rattle.std.proofs.lemmas.Str.{is_utf8-from_IsUtf8, IsUtf8-nil}
use Rattle.mz_base.specs.Answers.{◌>>=◌}
use Rattle.mz_base.specs.Numbers.{signed_of, unsigned_of}
use Rattle.mz_base.specs.Rows.{rows_after}
use Rattle.mz_base.specs.declared.fault.FaultKind.{FaultKind}
use Rattle.mz_base.specs.declared.fault.FaultKind.TheVariants.{Number}
use Rattle.conn_matrix.specs.Costs.{cost_on, cost_row, is_empty, filled}
use Rattle.conn_matrix.specs.declared.reader.TheConstants.{FIRST_COST_LINE}

-- the number of the line that comes after these costs
abbrev pub next_number : List ℤ → ℕ
next_number costs = length costs + FIRST_COST_LINE

-- what these lines give after these costs, where an empty line stands before them or not
abbrev pub costs_after : Bool → List ℤ → List (List ℕ) → Result (List ℤ) FaultKind
costs_after true costs lines = cond (list_all is_empty lines) (Ok costs) (Err (Number (next_number costs)))
costs_after false costs lines = rows_after cost_row costs (next_number costs) (filled lines)

-- an empty line has no cost
cost_on-empty : (number : ℕ) → cost_on number [] ≡ Err (Number number)
unfolding signed_of unsigned_of
cost_on-empty number = rw (is_utf8-from_IsUtf8 [] IsUtf8-nil) refl

costs_after-gap : (costs : List ℤ) (lines : List (List ℕ)) (all : Bool) → rows_after cost_row costs (next_number costs) (cond all [] ([] ∷ filled lines)) ≡ cond all (Ok costs) (Err (Number (next_number costs)))
costs_after-gap costs lines true = refl
costs_after-gap costs lines false =
    ap (λ given. given >>= (λ cost. Ok (Some cost)) >>= (λ cost. rows_after cost_row (costs ++ option_to_list cost) (next_number costs + 1) (filled lines))) (cost_on-empty (next_number costs))

-- an empty line
pub costs_after-empty : (ended : Bool) (costs : List ℤ) (line : List ℕ) (lines : List (List ℕ)) → is_empty line ≡ true → costs_after ended costs (line ∷ lines) ≡ costs_after true costs lines
costs_after-empty ended costs (b ∷ bs) lines is = absurd (grind (arith, nat_tests, is))
costs_after-empty true costs [] lines is = refl
costs_after-empty false costs [] lines is = costs_after-gap costs lines (list_all is_empty lines)

-- a line that is not empty, after an empty one
pub costs_after-ended : (costs : List ℤ) (line : List ℕ) (lines : List (List ℕ)) → is_empty line ≡ false → costs_after true costs (line ∷ lines) ≡ Err (Number (next_number costs))
costs_after-ended costs line lines some = rw some refl

module _ (costs : List ℤ) (line : List ℕ) (lines : List (List ℕ)) (some : is_empty line ≡ false) where
  -- what follows, where the line gives this
  abbrev from_cost : Result ℤ FaultKind → Result (List ℤ) FaultKind
  from_cost given =
      given >>= (λ cost. Ok (Some cost)) >>= (λ cost. rows_after cost_row (costs ++ option_to_list cost) (next_number costs + 1) (filled lines))

  counted : costs_after false costs (line ∷ lines) ≡ from_cost (cost_on (next_number costs) line)
  counted = rw some refl

  -- a line with a cost
  pub costs_after-cost : (cost : ℤ) → cost_on (next_number costs) line ≡ Ok cost → costs_after false costs (line ∷ lines) ≡ costs_after false (costs ++ cost ∷ []) lines
  costs_after-cost cost given =
      let number : next_number costs + 1 ≡ next_number (costs ++ cost ∷ []) = omega (arith, length-append costs (cost ∷ [])) in
      counted ∙ ap from_cost given ∙ ap (λ n. rows_after cost_row (costs ++ cost ∷ []) n (filled lines)) number

  -- a line with a fault
  pub costs_after-fault : (kind : FaultKind) → cost_on (next_number costs) line ≡ Err kind → costs_after false costs (line ∷ lines) ≡ Err kind
  costs_after-fault kind given = counted ∙ ap from_cost given

-- no line is left
pub costs_after-end : (ended : Bool) (costs : List ℤ) → costs_after ended costs [] ≡ Ok costs
costs_after-end true costs = refl
costs_after-end false costs = refl
