-- The place of a value in a list of candidates.
use Rattle.std.proofs.Common.{◌≡◌, refl, sym, ap, subst, ◌∙◌, ℕ, ◌+◌, ◌<◌, Bool, true, false, cond, List, [], ◌∷◌, map, Option, Some, None, if◌then◌else◌, length, arith, inl, inr}
use Rattle.std.specs.Prelude.{nat_lt}
use Rattle.std.specs.List.{position, position_or_len}
use Rattle.std.proofs.lemmas.Bool.{cases_Bool}
use Rattle.std.proofs.lemmas.Bool.Decides.{nat_tests}
use Rattle.std.proofs.lemmas.List.{length-map}
use Rattle.mz_base.proofs.OrderLemmas.{position-none, position-some}

-- the first that passes has the same place among what is made of them
position_or_len-map : {X Y : Type 0} (f : X → Y) (p : Y → Bool) (xs : List X) → position_or_len p (map f xs) ≡ position_or_len (λ x. p (f x)) xs
position_or_len-map f p [] = refl
position_or_len-map f p (x ∷ xs) =
    elim (cases_Bool (p (f x))) [
      | inl is ↦ rw is refl
      | inr not ↦ rw not (ap (λ n. 1 + n) (position_or_len-map f p xs))
    ]

lt-false : (n : ℕ) → nat_lt n n ≡ false
lt-false n = grind (arith, nat_tests)

lt-true : (n m : ℕ) → n < m → nat_lt n m ≡ true
lt-true n m less = grind (arith, nat_tests)

module _ {X Y : Type 0} (f : X → Y) (p : Y → Bool) (xs : List X) where
  abbrev place : ℕ
  place = position_or_len p (map f xs)

  pub place-none : position (λ x. p (f x)) xs ≡ None → 0 ≡ (if nat_lt (position_or_len p (map f xs)) (length (map f xs)) then position_or_len p (map f xs) else 0)
  place-none none =
      let at : place ≡ length (map f xs) = position_or_len-map f p xs ∙ sym (position-none (λ x. p (f x)) xs none) ∙ sym (length-map xs f) in
      let past : nat_lt place (length (map f xs)) ≡ false = ap (λ n. nat_lt n (length (map f xs))) at ∙ lt-false (length (map f xs)) in
      rw past refl

  pub place-some : (n : ℕ) → n < length xs → position (λ x. p (f x)) xs ≡ Some n → n ≡ (if nat_lt (position_or_len p (map f xs)) (length (map f xs)) then position_or_len p (map f xs) else 0)
  place-some n inside some =
      let at : n ≡ place = position-some (λ x. p (f x)) xs n some ∙ sym (position_or_len-map f p xs) in
      let long = length-map xs f in
      let there : nat_lt place (length (map f xs)) ≡ true = lt-true place (length (map f xs)) (omega (arith, inside, at, long)) in
      rw there at
