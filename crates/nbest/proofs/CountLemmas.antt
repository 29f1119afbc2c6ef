-- How many tails of a queue a path ends with.
use Rattle.std.proofs.Common.{◌≡◌, refl, sym, ap, ◌∙◌, ℕ, zero, suc, ◌+◌, ◌<◌, Bool, true, false, cond, ◌||◌, ltb, eqb, inl, inr, List, [], ◌∷◌, ◌++◌, map, get_or, arith}
use Rattle.std.specs.Prelude.{◌≢◌, count_by}
use Rattle.std.specs.List.{All, filter, list_any, sum_by}
use Rattle.std.specs.List.Sorted.{IsPermutation}
use Rattle.std.proofs.lemmas.Bool.Decides.{nat_tests}
use Rattle.std.proofs.lemmas.List.Sorted.{All-permutation, sum_by-IsPermutation}
use Rattle.std.proofs.lemmas.List.Sums.{sum_by-append, sum_by-cons}
use Rattle.conversion_meaning.proofs.Lists.{Among, Rises}
use Rattle.nbest.specs.Tails.{Ending, Replaces, no_ending}

abbrev pub tally : Bool → ℕ
tally b = cond b 1 0

pub count-cons : {X : Type 0} (p : X → Bool) (x : X) (xs : List X) → count_by p (x ∷ xs) ≡ tally (p x) + count_by p xs
count-cons p x xs = sum_by-cons (λ y. cond (p y) 1 0) x xs

-- some element passes where the count is not 0
pub any_counted : {X : Type 0} (p : X → Bool) (xs : List X) → list_any p xs ≡ ltb 0 (count_by p xs)
any_counted p [] = refl
any_counted p (x ∷ xs) =
    by_test (p x) (count_by p (x ∷ xs)) (count-cons p x xs) (any_counted p xs)
  where
    by_test : (b : Bool) (n : ℕ) → n ≡ tally b + count_by p xs → list_any p xs ≡ ltb 0 (count_by p xs) → (b || list_any p xs) ≡ ltb 0 n
    by_test true n is more = let some : 0 < n = omega (arith, is) in grind (arith, nat_tests)
    by_test false n is more = more ∙ ap (ltb 0) (let e : count_by p xs ≡ n = omega (arith, is) in e)

-- none of what a filtered list gives passes
pub count_none : (f : Ending → Bool) (g : ℕ → Ending) (q : ℕ → Bool) (os : List ℕ) → ((o : ℕ) → Among o os → f (g o) ≡ false) → count_by f (map g (filter q os)) ≡ 0
count_none f g q [] fails = refl
count_none f g q (o ∷ os) fails =
    by_test (q o) (count_none f g q os (λ x h. fails x (inr h)))
  where
    by_test : (b : Bool) → count_by f (map g (filter q os)) ≡ 0 → count_by f (map g (cond b (o ∷ filter q os) (filter q os))) ≡ 0
    by_test true rest =
        let e = count-cons f (g o) (map g (filter q os)) in
        let t : tally (f (g o)) ≡ 0 = ap tally (fails o (inl refl)) in
        omega (arith, e, t, rest)
    by_test false rest = rest

-- one of them does
pub count_one : (f : Ending → Bool) (g : ℕ → Ending) (q : ℕ → Bool) (x : ℕ) (os : List ℕ) → ((o : ℕ) → f (g o) ≡ eqb o x) → q x ≡ true → Rises (λ a b. a ≢ b) os → Among x os → count_by f (map g (filter q os)) ≡ 1
count_one f g q x [] is passes rises h = absurd h
count_one f g q x (o ∷ os) is passes rises (inl same) =
    let kept : q o ≡ true = ap q same ∙ passes in
    let counted : tally (f (g o)) ≡ 1 = ap tally (is o ∙ equal o x same) in
    let rest = count_none f g q os (λ y k. is y ∙ unequal y x (λ e. rises.0 y k (same ∙ sym e))) in
    let e = count-cons f (g o) (map g (filter q os)) in
    rw kept (omega (arith, e, counted, rest))
  where
    equal : (a b : ℕ) → a ≡ b → eqb a b ≡ true
    equal a b e = grind (arith, nat_tests)

    unequal : (a b : ℕ) → a ≢ b → eqb a b ≡ false
    unequal a b e = grind (arith, nat_tests)
count_one f g q x (o ∷ os) is passes rises (inr later) =
    by_test (q o) (count_one f g q x os is passes rises.1 later)
  where
    unequal : (a b : ℕ) → a ≢ b → eqb a b ≡ false
    unequal a b e = grind (arith, nat_tests)

    by_test : (b : Bool) → count_by f (map g (filter q os)) ≡ 1 → count_by f (map g (cond b (o ∷ filter q os) (filter q os))) ≡ 1
    by_test true rest =
        let e = count-cons f (g o) (map g (filter q os)) in
        let t : tally (f (g o)) ≡ 0 = ap tally (is o ∙ unequal o x (rises.0 x later)) in
        omega (arith, e, t, rest)
    by_test false rest = rest

-- what others in the place of the first tail leave of a sum
pub sum_replaced : (f : Ending → ℕ) (old others new : List Ending) (r : Replaces old others new) → sum_by f new + f (get_or old 0 no_ending) ≡ sum_by f old + sum_by f others
sum_replaced f old others new r =
    let a = sum_by-IsPermutation f old (get_or old 0 no_ending ∷ r.rest) r.was in
    let b = sum_by-cons f (get_or old 0 no_ending) r.rest in
    let c = sum_by-IsPermutation f (r.rest ++ others) new r.is in
    let e = sum_by-append f r.rest others in
    omega (arith, a, b, c, e)

-- what leaves a queue with its first tail
pub sum_taken : (f : Ending → ℕ) (old : List Ending) (e : Ending) (new : List Ending) → IsPermutation old (e ∷ new) → sum_by f new + f e ≡ sum_by f old
sum_taken f old e new same =
    let a = sum_by-IsPermutation f old (e ∷ new) same in
    let b = sum_by-cons f e new in
    omega (arith, a, b)

All-tail_of : (P : Ending → Type 0) (x : Ending) (xs : List Ending) → All P (x ∷ xs) → All P xs
All-tail_of P x xs all = λ k d inside. all (suc k) d (omega (arith, inside))

All-join : (P : Ending → Type 0) (xs ys : List Ending) → All P xs → All P ys → All P (xs ++ ys)
All-join P [] ys all others = others
All-join P (x ∷ xs) ys all others =
    by_place (All-join P xs ys (λ j e low. all (suc j) e (omega (arith, low))) others)
  where
    by_place : All P (xs ++ ys) → All P (x ∷ (xs ++ ys))
    by_place rest zero d inside = all 0 d (omega arith)
    by_place rest (suc k) d inside = rest k d (omega (arith, inside))

pub All-replaced : (P : Ending → Type 0) (old others new : List Ending) → Replaces old others new → All P old → All P others → All P new
All-replaced P old others new r all more =
    All-permutation P (r.rest ++ others) new r.is (All-join P r.rest others (All-tail_of P (get_or old 0 no_ending) r.rest (All-permutation P old (get_or old 0 no_ending ∷ r.rest) r.was all)) more)

pub All-taken : (P : Ending → Type 0) (old : List Ending) (e : Ending) (new : List Ending) → IsPermutation old (e ∷ new) → All P old → All P new
All-taken P old e new same all =
    All-tail_of P e new (All-permutation P old (e ∷ new) same all)
