-- Ranges, taken apart at their ends.
use Rattle.std.proofs.Common.{◌≡◌, sym, ap, ◌∙◌, ℕ, zero, suc, ◌+◌, ◌-◌, ◌<◌, ◌≤◌, List, [], ◌∷◌, ◌++◌, append_assoc, append-nil, arith, add-zero}
use Rattle.std.specs.List.{flat_map, range_with_len}

-- one number more at the end
pub range_more : (a n : ℕ) → range_with_len a (n + 1) ≡ range_with_len a n ++ (a + n) ∷ []
range_more a zero = ap (λ x. x ∷ []) (sym (add-zero a))
range_more a (suc n) =
    let count : suc n + 1 ≡ suc (n + 1) = omega arith in
    let last : (a + 1) + n ≡ a + suc n = omega arith in
    ap (range_with_len a) count ∙ ap (λ xs. a ∷ xs) (range_more (a + 1) n ∙ ap (λ x. range_with_len (a + 1) n ++ x ∷ []) last)

-- from 0 on
pub range_grows : (n : ℕ) → range_with_len 0 (n + 1) ≡ range_with_len 0 n ++ n ∷ []
range_grows n = range_more 0 n ∙ ap (λ x. range_with_len 0 n ++ x ∷ []) (omega arith)

-- the first number, and those that are left
pub range_step : (a end : ℕ) → a < end → range_with_len a (end - a) ≡ a ∷ range_with_len (a + 1) (end - (a + 1))
range_step a end below =
    let count : end - a ≡ suc (end - (a + 1)) = omega arith in
    ap (range_with_len a) count

-- a step of a loop over a range: what was added, and then what the numbers that are left give, is what all give
pub flat_map_step : {X : Type 0} (f : ℕ → List X) (out all : List X) (a end : ℕ) → a < end → out ++ flat_map f (range_with_len a (end - a)) ≡ all → (out ++ f a) ++ flat_map f (range_with_len (a + 1) (end - (a + 1))) ≡ all
flat_map_step f out all a end below before =
    let rest = flat_map f (range_with_len (a + 1) (end - (a + 1))) in
    append_assoc out (f a) rest ∙ ap (λ ns. out ++ flat_map f ns) (sym (range_step a end below)) ∙ before

-- the end of such a loop
pub flat_map_end : {X : Type 0} (f : ℕ → List X) (out all : List X) (a end : ℕ) → end ≤ a → out ++ flat_map f (range_with_len a (end - a)) ≡ all → out ≡ all
flat_map_end f out all a end over before =
    let count : end - a ≡ 0 = omega arith in
    sym (append-nil out) ∙ ap (λ n. out ++ flat_map f (range_with_len a n)) (sym count) ∙ before
