use Rattle.std.proofs.Common.{◌≡◌, ℕ, ◌+◌, ◌-◌, ◌<◌, ◌≤◌, Bool, cond, true, false, ltb, eqb, List, [], ◌∷◌, Some, None, length, take, drop, sym, refl, arith}
use Rattle.std.specs.List.{slice_split, position_or_len, position}
use Rattle.std.proofs.lemmas.Bool.Decides.{nat_tests}
use Rattle.std.proofs.lemmas.List.{take_rest}
use Rattle.std.proofs.lemmas.List.Splits.{slice_split_first, slice_split_none}
use Rattle.std.proofs.lemmas.List.Sums.{fails_before_first}
use Rattle.mz_base.proofs.lines.cut_part.Goals as goal

found_at : (i n m : ℕ) → ltb i n ≡ true → cond (ltb i n) (Some i) None ≡ Some m → (m ≡ i) × (i < n)
found_at i n m is found = (let same : Some i ≡ Some m = rw is at found in cc same, grind (arith, nat_tests))

place_of : (i n m : ℕ) → cond (ltb i n) (Some i) None ≡ Some m → (m ≡ i) × (i < n)
place_of i n m found =
    elim (ltb i n) as (λ t. ltb i n ≡ t → (m ≡ i) × (i < n)) [
      | true ↦ λ is. found_at i n m is found
      | false ↦ λ is. absurd (let none : None ≡ Some m = rw is at found in cc none)
    ] refl

nowhere : (i n : ℕ) → cond (ltb i n) (Some i) None ≡ None → n ≤ i
nowhere i n none = grind (arith, nat_tests, none)

split_at_feed : (p : ℕ → Bool) (xs : List ℕ) (m : ℕ) → position p xs ≡ Some m → slice_split p xs ≡ take m xs ∷ slice_split p (take (length xs - (m + 1)) (drop (m + 1) xs))
split_at_feed p xs m found =
    let (same, inside) = place_of (position_or_len p xs) (length xs) m found in
    rw (same, take_rest) (slice_split_first p xs 0 inside)

whole_part : (p : ℕ → Bool) (xs : List ℕ) → position p xs ≡ None → slice_split p xs ≡ xs ∷ []
whole_part p xs none =
    let past = nowhere (position_or_len p xs) (length xs) none in
    slice_split_none p xs (λ k d inside. fails_before_first p xs k d (omega arith))

pub returns-in-Some : goal.returns-in-Some
returns-in-Some c =
    split_at_feed (λ b. eqb b 10) c.args.text.now c.in-Some.end (sym c.in-Some.ensures)

pub returns-in-None : goal.returns-in-None
returns-in-None c = whole_part (λ b. eqb b 10) c.args.text.now (sym c.in-None.ensures)
