-- Where a test ends to hold, told by the elements on both sides of a place.
use Rattle.std.proofs.Common.{◌≡◌, ℕ, zero, suc, ◌+◌, ◌-◌, ◌<◌, ◌≤◌, ◌==◌, Bool, not, true, false, true≢false, cond, List, [], ◌∷◌, length, get_or, nat_lt, refl, sym, ap, ◌∙◌, arith}
use Rattle.std.specs.List.Sorted.{IsPartitionPoint, IsPartitionedBy}
use Rattle.std.specs.Ordering.{is_le, is_lt, nat_cmp}
use Rattle.std.specs.declared.cmp.Ordering.TheVariants.{Less, Equal, Greater}
use Rattle.std.proofs.lemmas.Bool.{false_from_ne_true}
use Rattle.std.proofs.lemmas.Bool.Decides.{nat_tests}

pub not-false : (t : Bool) → not t ≡ true → t ≡ false
not-false true is = sym is
not-false false is = refl

-- inside a list the default does not matter
same-at : {X : Type 0} (xs : List X) (k : ℕ) (d e : X) → k < length xs → get_or xs k d ≡ get_or xs k e
same-at [] k d e inside = absurd (omega (arith, inside))
same-at (x ∷ xs) zero d e inside = refl
same-at (x ∷ xs) (suc k) d e inside = same-at xs k d e (omega (arith, inside))

module _ {X : Type 0} (p : X → Bool) (xs : List X) (parted : IsPartitionedBy p xs) (place : ℕ) (e : X) where
  -- where the element before the place passes, each before it does
  pub all-before : 0 < place → place ≤ length xs → p (get_or xs (place - 1) e) ≡ true → (k : ℕ) (d : X) → k < place → p (get_or xs k d) ≡ true
  all-before some inside passes k d before =
      let last : place - 1 < length xs = omega (arith, some, inside) in
      parted k (place - 1) d (omega (arith, before)) last (ap p (same-at xs (place - 1) d e last) ∙ passes)

  -- where the element at the place fails, none behind it passes
  pub none-from : place < length xs → p (get_or xs place e) ≡ false → (k : ℕ) (d : X) → place ≤ k → k < length xs → p (get_or xs k d) ≡ false
  none-from inside fails k d behind below =
      false_from_ne_true _ (λ passes. true≢false (sym (parted place k d behind below passes) ∙ ap p (same-at xs place d e inside) ∙ fails))

lt-test : (n m : ℕ) (t u : Bool) → nat_lt n m ≡ t → (n == m) ≡ u → is_lt (cond t Less (cond u Equal Greater)) ≡ t
lt-test n m true u less same = refl
lt-test n m false true less same = refl
lt-test n m false false less same = refl

pub is_lt-nat_cmp : (n m : ℕ) → is_lt (nat_cmp n m) ≡ nat_lt n m
is_lt-nat_cmp n m = lt-test n m (nat_lt n m) (n == m) refl refl

le-test : (n m : ℕ) (t u : Bool) → nat_lt n m ≡ t → (n == m) ≡ u → is_le (cond t Less (cond u Equal Greater)) ≡ nat_lt n (m + 1)
le-test n m true u less same = grind (arith, nat_tests, less)
le-test n m false true less same = grind (arith, nat_tests, same)
le-test n m false false less same = grind (arith, nat_tests, less, same)

pub is_le-nat_cmp : (n m : ℕ) → is_le (nat_cmp n m) ≡ nat_lt n (m + 1)
is_le-nat_cmp n m = le-test n m (nat_lt n m) (n == m) refl refl

-- ---- The same test in other words

module _ {X : Type 0} (p q : X → Bool) (same : (x : X) → p x ≡ q x) (xs : List X) where
  pub parted-alike : IsPartitionedBy p xs → IsPartitionedBy q xs
  parted-alike parted i j d ordered inside passes =
      sym (same (get_or xs i d)) ∙ parted i j d ordered inside (same (get_or xs j d) ∙ passes)

  pub point-alike : (place : ℕ) → IsPartitionPoint (λ x. q x ≡ true) (λ x. q x ≡ false) xs place → IsPartitionPoint (λ x. p x ≡ true) (λ x. p x ≡ false) xs place
  point-alike place point = (
    λ k d low high. same (get_or xs k d) ∙ point.0 k d low high,
    λ k d low high. same (get_or xs k d) ∙ point.1 k d low high,
  )
