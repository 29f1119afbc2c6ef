-- Membership in lists that `map`, `filter`, `flat_map` and ranges make.
use Rattle.std.proofs.Common.{◌≡◌, refl, sym, ap, ◌∙◌, subst, ℕ, zero, suc, ◌+◌, ◌<◌, ◌≤◌, Bool, true, false, cond, ◌⊎◌, inl, inr, List, [], ◌∷◌, ◌++◌, map, Option, Some, None, length, get_or, arith}
use Rattle.std.specs.List.{All, AllPairs, cons_option, filter, filter_map, flat_map, range_with_len}
use Rattle.std.proofs.lemmas.List.Kept.{AllPairs-cons}

-- x is an element of the list
abbrev pub Among : {X : Type 0} → X → List X → Type 0
Among x [] = ⊥
Among x (y ∷ ys) = (y ≡ x) ⊎ Among x ys

pub Among-append_left : {X : Type 0} (x : X) (xs ys : List X) → Among x xs → Among x (xs ++ ys)
Among-append_left x [] ys h = absurd h
Among-append_left x (y ∷ xs) ys (inl e) = inl e
Among-append_left x (y ∷ xs) ys (inr h) = inr (Among-append_left x xs ys h)

pub Among-append_right : {X : Type 0} (x : X) (xs ys : List X) → Among x ys → Among x (xs ++ ys)
Among-append_right x [] ys h = h
Among-append_right x (y ∷ xs) ys h = inr (Among-append_right x xs ys h)

pub Among-append_cases : {X : Type 0} (x : X) (xs ys : List X) → Among x (xs ++ ys) → Among x xs ⊎ Among x ys
Among-append_cases x [] ys h = inr h
Among-append_cases x (y ∷ xs) ys (inl e) = inl (inl e)
Among-append_cases x (y ∷ xs) ys (inr h) =
    elim (Among-append_cases x xs ys h) [ inl a ↦ inl (inr a) | inr b ↦ inr b ]

pub Among-map : {X Y : Type 0} (f : X → Y) (x : X) (xs : List X) → Among x xs → Among (f x) (map f xs)
Among-map f x [] h = absurd h
Among-map f x (y ∷ xs) (inl e) = inl (ap f e)
Among-map f x (y ∷ xs) (inr h) = inr (Among-map f x xs h)

-- an element of a `map` comes from one
pub from_map : {X Y : Type 0} (f : X → Y) (y : Y) (xs : List X) → Among y (map f xs) → (x : X) × Among x xs × (f x ≡ y)
from_map f y [] h = absurd h
from_map f y (x ∷ xs) (inl e) = (x, inl refl, e)
from_map f y (x ∷ xs) (inr h) = let r = from_map f y xs h in (r.0, inr r.1, r.2)

pub Among-filter : {X : Type 0} (p : X → Bool) (x : X) (xs : List X) → p x ≡ true → Among x xs → Among x (filter p xs)
Among-filter p x [] passes h = absurd h
Among-filter p x (y ∷ xs) passes (inl e) =
    let t : p y ≡ true = ap p e ∙ passes in rw t (inl e)
Among-filter p x (y ∷ xs) passes (inr h) =
    elim (p y) as (λ b. Among x (cond b (y ∷ filter p xs) (filter p xs))) [ true ↦ inr (Among-filter p x xs passes h) | false ↦ Among-filter p x xs passes h ]

-- an element of a `filter` is one of the list, and passes
pub from_filter : {X : Type 0} (p : X → Bool) (x : X) (xs : List X) → Among x (filter p xs) → Among x xs × (p x ≡ true)
from_filter p x [] h = absurd h
from_filter {X} p x (y ∷ xs) h =
    let kept : (b : Bool) → p y ≡ b → Among x (cond b (y ∷ filter p xs) (filter p xs)) → Among x (y ∷ xs) × (p x ≡ true) = from_filter_cons p x y xs (from_filter p x xs) in
    kept (p y) refl h
  where
    from_filter_cons : {X : Type 0} (p : X → Bool) (x y : X) (xs : List X) → (Among x (filter p xs) → Among x xs × (p x ≡ true)) → (b : Bool) → p y ≡ b → Among x (cond b (y ∷ filter p xs) (filter p xs)) → Among x (y ∷ xs) × (p x ≡ true)
    from_filter_cons p x y xs more true is (inl e) = (inl e, ap p (sym e) ∙ is)
    from_filter_cons p x y xs more true is (inr h) = let r = more h in (inr r.0, r.1)
    from_filter_cons p x y xs more false is h = let r = more h in (inr r.0, r.1)

pub Among-flat_map : {X Y : Type 0} (f : X → List Y) (x : X) (y : Y) (xs : List X) → Among x xs → Among y (f x) → Among y (flat_map f xs)
Among-flat_map f x y [] h k = absurd h
Among-flat_map f x y (z ∷ xs) (inl e) k =
    Among-append_left y (f z) (flat_map f xs) (subst (λ v. Among y (f v)) (sym e) k)
Among-flat_map f x y (z ∷ xs) (inr h) k =
    Among-append_right y (f z) (flat_map f xs) (Among-flat_map f x y xs h k)

-- an element of a `flat_map` comes from an element of the list
pub from_flat_map : {X Y : Type 0} (f : X → List Y) (y : Y) (xs : List X) → Among y (flat_map f xs) → (x : X) × Among x xs × Among y (f x)
from_flat_map f y [] h = absurd h
from_flat_map f y (z ∷ xs) h =
    elim (Among-append_cases y (f z) (flat_map f xs) h) [ inl a ↦ (z, inl refl, a) | inr b ↦ (let r = from_flat_map f y xs b in (r.0, inr r.1, r.2)) ]

pub Among-range : (a n x : ℕ) → a ≤ x → x < a + n → Among x (range_with_len a n)
Among-range a zero x low high = absurd (omega arith)
Among-range a (suc n) x low high =
    elim (split a x low) [ inl e ↦ inl e | inr l ↦ inr (Among-range (a + 1) n x (omega arith) (omega arith)) ]
  where
    split : (a x : ℕ) → a ≤ x → (a ≡ x) ⊎ (a < x)
    split a x h = grind arith

-- an element of a range
pub from_range : (a n x : ℕ) → Among x (range_with_len a n) → (a ≤ x) × (x < a + n)
from_range a zero x h = absurd h
from_range a (suc n) x (inl e) = (omega arith, omega arith)
from_range a (suc n) x (inr h) = let r = from_range (a + 1) n x h in (omega arith, omega arith)

-- an element stands somewhere
pub place_of : {X : Type 0} (x : X) (xs : List X) → Among x xs → (k : ℕ) × (k < length xs) × ((d : X) → get_or xs k d ≡ x)
place_of x [] h = absurd h
place_of x (y ∷ xs) (inl e) = (0, omega arith, λ d. e)
place_of x (y ∷ xs) (inr h) = let r = place_of x xs h in (suc r.0, omega arith, r.2)

-- what stands somewhere is an element
pub Among-get_or : {X : Type 0} (xs : List X) (k : ℕ) (d : X) → k < length xs → Among (get_or xs k d) xs
Among-get_or [] k d h = absurd (omega arith)
Among-get_or (x ∷ xs) zero d h = inl refl
Among-get_or (x ∷ xs) (suc k) d h = inr (Among-get_or xs k d (omega arith))

pub All-from_among : {X : Type 0} (P : X → Type 0) (xs : List X) → ((x : X) → Among x xs → P x) → All P xs
All-from_among P xs h = λ k d inside. h (get_or xs k d) (Among-get_or xs k d inside)

-- an element of a `filter_map` is what one of the list gives
pub from_filter_map : {X Y : Type 0} (f : X → Option Y) (y : Y) (xs : List X) → Among y (filter_map f xs) → (x : X) × Among x xs × (f x ≡ Some y)
from_filter_map f y [] h = absurd h
from_filter_map f y (x ∷ xs) h = by_value f y x xs (from_filter_map f y xs) (f x) refl h
  where
    by_value : {X Y : Type 0} (f : X → Option Y) (y : Y) (x : X) (xs : List X) → (Among y (filter_map f xs) → (z : X) × Among z xs × (f z ≡ Some y)) → (o : Option Y) → f x ≡ o → Among y (cons_option o (filter_map f xs)) → (z : X) × Among z (x ∷ xs) × (f z ≡ Some y)
    by_value f y x xs more None is h = let r = more h in (r.0, inr r.1, r.2)
    by_value f y x xs more (Some v) is (inl e) = (x, inl refl, is ∙ ap Some e)
    by_value f y x xs more (Some v) is (inr h) = let r = more h in (r.0, inr r.1, r.2)

-- each element is related to all later ones
abbrev pub Rises : {X : Type 0} → (X → X → Type 0) → List X → Type 0
Rises R [] = Unit {0}
Rises {X} R (x ∷ xs) = ((y : X) → Among y xs → R x y) × Rises R xs

pub AllPairs-from_rises : {X : Type 0} (R : X → X → Type 0) (xs : List X) → Rises R xs → AllPairs R xs
AllPairs-from_rises R [] h = λ i j d below inside. absurd (omega arith)
AllPairs-from_rises R (x ∷ xs) h =
    AllPairs-cons R x xs (All-from_among (R x) xs h.0) (AllPairs-from_rises R xs h.1)

pub Rises-append : {X : Type 0} (R : X → X → Type 0) (xs ys : List X) → Rises R xs → Rises R ys → ((x y : X) → Among x xs → Among y ys → R x y) → Rises R (xs ++ ys)
Rises-append R [] ys first second across = second
Rises-append {X} R (x ∷ xs) ys first second across = (ahead, Rises-append R xs ys first.1 second (λ a b h. across a b (inr h)))
  where
    ahead : (y : X) → Among y (xs ++ ys) → R x y
    ahead y h =
        elim (Among-append_cases y xs ys h) [ inl a ↦ first.0 y a | inr b ↦ across x y (inl refl) b ]

-- a list of elements that are all related to each other
pub Rises-all : {X : Type 0} (R : X → X → Type 0) (xs : List X) → ((x y : X) → Among x xs → Among y xs → R x y) → Rises R xs
Rises-all R [] h = tt
Rises-all R (x ∷ xs) h = (λ y k. h x y (inl refl) (inr k), Rises-all R xs (λ a b j k. h a b (inr j) (inr k)))

-- the parts that the numbers of a range give, where what a lower number gives is related to what a higher one gives
pub Rises-flat_map : {X : Type 0} (R : X → X → Type 0) (f : ℕ → List X) (a n : ℕ) → ((i : ℕ) → a ≤ i → i < a + n → Rises R (f i)) → ((i j : ℕ) (x y : X) → a ≤ i → i < j → j < a + n → Among x (f i) → Among y (f j) → R x y) → Rises R (flat_map f (range_with_len a n))
Rises-flat_map R f a zero within across = tt
Rises-flat_map {X} R f a (suc n) within across =
    Rises-append R (f a) (flat_map f (range_with_len (a + 1) n)) (within a (omega arith) (omega arith)) (Rises-flat_map R f (a + 1) n (λ i low high. within i (omega arith) (omega arith)) (λ i j x y low below high. across i j x y (omega arith) below (omega arith))) later
  where
    later : (x y : X) → Among x (f a) → Among y (flat_map f (range_with_len (a + 1) n)) → R x y
    later x y h k =
        let r = from_flat_map f y (range_with_len (a + 1) n) k in
        let inside = from_range (a + 1) n r.0 r.1 in
        across a r.0 x y (omega arith) (omega arith) (omega arith) h r.2
