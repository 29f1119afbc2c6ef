-- Filters that keep all, none, or what another one keeps.
use Rattle.std.proofs.Common.{◌≡◌, Bool, true, false, true≢false, cond, List, [], ◌∷◌, map, refl, sym, ap, ◌∙◌, inl, inr}
use Rattle.std.specs.List.{All, filter, flat_map}
use Rattle.std.proofs.lemmas.Bool.{cases_Bool, false_from_ne_true}
use Rattle.std.proofs.lemmas.List.Elements.{All-head, All-tail}

pub filter-none : {X : Type 0} (p : X → Bool) (xs : List X) → All (λ x. p x ≡ false) xs → filter p xs ≡ []
filter-none p [] each = refl
filter-none p (x ∷ xs) each =
    let fails = All-head (λ x. p x ≡ false) x xs each in
    rw fails (filter-none p xs (All-tail (λ x. p x ≡ false) x xs each))

pub filter-all : {X : Type 0} (p : X → Bool) (xs : List X) → All (λ x. p x ≡ true) xs → filter p xs ≡ xs
filter-all p [] each = refl
filter-all p (x ∷ xs) each =
    let passes = All-head (λ x. p x ≡ true) x xs each in
    rw passes (ap (λ ys. x ∷ ys) (filter-all p xs (All-tail (λ x. p x ≡ true) x xs each)))

-- a filter that keeps less does not see a filter before it
pub filter-within : {X : Type 0} (p q : X → Bool) → ((x : X) → p x ≡ true → q x ≡ true) → (xs : List X) → filter p (filter q xs) ≡ filter p xs
filter-within p q less [] = refl
filter-within p q less (x ∷ xs) =
    elim (cases_Bool (q x)) [
      | inl is ↦ rw is (ap (λ ys. cond (p x) (x ∷ ys) ys) (filter-within p q less xs))
      | inr not ↦
          let out : p x ≡ false =
          false_from_ne_true _ (λ passes. true≢false (sym (less x passes) ∙ not)) in
          rw (not, out) (filter-within p q less xs)
    ]

-- two filters, in either order
pub filter-comm : {X : Type 0} (p q : X → Bool) (xs : List X) → filter p (filter q xs) ≡ filter q (filter p xs)
filter-comm p q [] = refl
filter-comm p q (x ∷ xs) =
    let rest = filter-comm p q xs in
    elim (cases_Bool (p x)) [
      | inl is ↦ elim (cases_Bool (q x)) [
        | inl also ↦ simp (is, also) (ap (λ ys. x ∷ ys) rest)
        | inr other ↦ simp (is, other) rest
      ]
      | inr not ↦ elim (cases_Bool (q x)) [
        | inl also ↦ simp (not, also) rest
        | inr other ↦ simp (not, other) rest
      ]
    ]

pub flat_map-none : {X Y : Type 0} (f : X → List Y) (xs : List X) → All (λ x. f x ≡ []) xs → flat_map f xs ≡ []
flat_map-none f [] each = refl
flat_map-none f (x ∷ xs) each =
    rw (All-head (λ x. f x ≡ []) x xs each) (flat_map-none f xs (All-tail (λ x. f x ≡ []) x xs each))

-- two tests that agree at the elements of a list keep the same of them
pub filter-alike : {X : Type 0} (p q : X → Bool) (xs : List X) → All (λ x. p x ≡ q x) xs → filter p xs ≡ filter q xs
filter-alike p q [] each = refl
filter-alike p q (x ∷ xs) each =
    let same = All-head (λ x. p x ≡ q x) x xs each in
    let rest = filter-alike p q xs (All-tail (λ x. p x ≡ q x) x xs each) in
    rw (same, rest) refl

-- what is made of the kept elements is what another test keeps of all that is made
pub map-filter : {X Y : Type 0} (f : X → Y) (p : X → Bool) (q : Y → Bool) (xs : List X) → All (λ x. p x ≡ q (f x)) xs → map f (filter p xs) ≡ filter q (map f xs)
map-filter f p q [] each = refl
map-filter f p q (x ∷ xs) each =
    let same = All-head (λ x. p x ≡ q (f x)) x xs each in
    let rest = map-filter f p q xs (All-tail (λ x. p x ≡ q (f x)) x xs each) in
    elim (cases_Bool (p x)) [
      | inl is ↦ rw (← same, is) (ap (λ ys. f x ∷ ys) rest)
      | inr not ↦ rw (← same, not) rest
    ]
