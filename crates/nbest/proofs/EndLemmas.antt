-- The entries that end at a position stand together in the order of ends.
use Rattle.std.proofs.Common.{◌≡◌, refl, sym, ap, ◌∙◌, subst, ℕ, suc, ◌+◌, ◌<◌, ◌≤◌, Bool, true, false, cond, ◌&&◌, eqb, ltb, leb, List, [], ◌∷◌, ◌++◌, length, get_or, take, drop, arith, append-nil, length-take, length-drop, take-append-drop, get_or-take, get_or-drop}
use Rattle.std.specs.Prelude.{nat_le}
use Rattle.std.specs.List.{All, filter}
use Rattle.std.specs.List.Sorted.{IsNonDecreasingBy, IsPartitionPoint}
use Rattle.std.proofs.lemmas.Bool.Decides.{nat_tests}
use Rattle.std.proofs.lemmas.List.Elements.{All-filter, filter-append}
use Rattle.mz_base.specs.declared.lattice.Entry.{Entry}
use Rattle.mz_base.specs.declared.lattice.Span.{Span}
use Rattle.conversion_meaning.specs.Lattices.{IsByEnd, entry}
use Rattle.nbest.specs.Searches.{end_of, ordinals_to}

pub IsNonDecreasingBy-by_end : (es : List Entry) (by_end : List ℕ) → IsByEnd es by_end → IsNonDecreasingBy (end_of es) by_end
IsNonDecreasingBy-by_end es by_end is i j d below inside = by_test (ltb i j) refl
  where
    by_test : (b : Bool) → ltb i j ≡ b → end_of es (get_or by_end i d) ≤ end_of es (get_or by_end j d)
    by_test true less =
        let low : i < j = grind (arith, nat_tests, less) in
        (is.rising i j d low inside).ends
    by_test false more =
        let same : i ≡ j = grind (arith, nat_tests, more, below) in
        let e = ap (λ k. end_of es (get_or by_end k d)) same in
        omega (arith, e)

filter-pass : {X : Type 0} (p : X → Bool) (xs : List X) → All (λ x. p x ≡ true) xs → filter p xs ≡ xs
filter-pass p [] h = refl
filter-pass p (x ∷ xs) h =
    rw (h 0 x (omega arith)) (ap (λ ys. x ∷ ys) (filter-pass p xs (λ k d inside. h (suc k) d (omega (arith, inside)))))

filter-fail : {X : Type 0} (p : X → Bool) (xs : List X) → All (λ x. p x ≡ false) xs → filter p xs ≡ []
filter-fail p [] h = refl
filter-fail p (x ∷ xs) h =
    rw (h 0 x (omega arith)) (filter-fail p xs (λ k d inside. h (suc k) d (omega (arith, inside))))

module _ (n : ℕ → ℕ) (t : ℕ) (xs : List ℕ) (i j : ℕ) (low : IsPartitionPoint (λ x. ltb (n x) t ≡ true) (λ x. ltb (n x) t ≡ false) xs i) (high : IsPartitionPoint (λ x. leb (n x) t ≡ true) (λ x. leb (n x) t ≡ false) (drop i xs) j) where
  before : All (λ x. eqb (n x) t ≡ false) (take i xs)
  before k d inside =
      let short : k < i = omega (arith, inside, length-take i xs) in
      let is = low.0 k d (omega arith) short in
      rw get_or-take (grind (arith, nat_tests, is))

  among : All (λ x. eqb (n x) t ≡ true) (take j (drop i xs))
  among k d inside =
      let short : k < j = omega (arith, inside, length-take j (drop i xs)) in
      let below : i + k < length xs = omega (arith, inside, length-take j (drop i xs), length-drop i xs) in
      let not_less : ltb (n (get_or (drop i xs) k d)) t ≡ false = rw (get_or-drop i xs k d) (low.1 (i + k) d (omega arith) below) in
      let at_most = high.0 k d (omega arith) short in
      rw get_or-take (grind (arith, nat_tests, not_less, at_most))

  behind : All (λ x. eqb (n x) t ≡ false) (drop j (drop i xs))
  behind k d inside =
      let below : j + k < length (drop i xs) = omega (arith, inside, length-drop j (drop i xs)) in
      let more = high.1 (j + k) d (omega arith) below in
      rw (get_or-drop j (drop i xs) k d) (grind (arith, nat_tests, more))

  -- the elements with this number stand between the two places
  pub between : take j (drop i xs) ≡ filter (λ x. eqb (n x) t) xs
  between =
      let p = λ (x : ℕ). eqb (n x) t in
      let rest = drop i xs in
      sym (ap (λ ys. filter p ys) (sym (take-append-drop i xs)) ∙ filter-append p (take i xs) rest ∙ ap (λ ys. ys ++ filter p rest) (filter-fail p (take i xs) before) ∙ ap (λ ys. filter p ys) (sym (take-append-drop j rest)) ∙ filter-append p (take j rest) (drop j rest) ∙ ap (λ ys. filter p (take j rest) ++ ys) (filter-fail p (drop j rest) behind) ∙ append-nil (filter p (take j rest)) ∙ filter-pass p (take j rest) among)

-- of those that end at a position, those that begin in the span
abbrev pub begins_in : List Entry → Span → ℕ → Bool
begins_in es span o = nat_le span.begin (entry es o).begin

pub ordinals_to-filter : (es : List Entry) (span : Span) (here : ℕ) (os : List ℕ) → filter (begins_in es span) (filter (λ o. eqb (end_of es o) here) os) ≡ ordinals_to es os span here
ordinals_to-filter es span here [] = refl
ordinals_to-filter es span here (o ∷ os) =
    by_test (eqb (entry es o).end here) (ordinals_to-filter es span here os)
  where
    by_test : (b : Bool) → filter (begins_in es span) (filter (λ x. eqb (end_of es x) here) os) ≡ ordinals_to es os span here → filter (begins_in es span) (cond b (o ∷ filter (λ x. eqb (end_of es x) here) os) (filter (λ x. eqb (end_of es x) here) os)) ≡ cond (b && begins_in es span o) (o ∷ ordinals_to es os span here) (ordinals_to es os span here)
    by_test true same = ap (λ ys. cond (begins_in es span o) (o ∷ ys) ys) same
    by_test false same = same

-- each ordinal that is found is that of an entry
pub ordinal_inside : (es : List Entry) (by_end : List ℕ) (those : List Entry) (os : List ℕ) (here : ℕ) (found : List ℕ) (i : ℕ) → IsByEnd es by_end → those ≡ es → os ≡ by_end → found ≡ filter (λ o. eqb (end_of those o) here) os → i < length found → get_or found i 0 < length those
ordinal_inside es by_end those os here found i is same order found_is low =
    let inside : All (λ o. o < length those) os = subst (λ ys. All (λ o. o < length those) ys) (sym order) (subst (λ xs. All (λ o. o < length xs) by_end) (sym same) is.ordinals) in
    let kept : All (λ o. o < length those) found = subst (λ ys. All (λ o. o < length those) ys) (sym found_is) (All-filter (λ o. eqb (end_of those o) here) (λ o. o < length those) os inside) in
    kept i 0 low
