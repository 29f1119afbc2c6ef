-- A tail and its siblings: their order, and what remains where the tail leaves.
use Rattle.std.proofs.Common.{subst, ℤ, ◌≡◌, refl, sym, ap, ◌∙◌, ℕ, zero, suc, ◌+◌, ◌-◌, ◌<◌, true, false, inl, inr, List, [], ◌∷◌, ◌++◌, map, drop, take, length, get_or, arith, length-append}
use Rattle.std.specs.Prelude.{◌≢◌, ◌*◌, ◌+ℤ◌}
use Rattle.std.specs.Cmp.Lexicographic.{slice_cmp}
use Rattle.std.specs.List.{All}
use Rattle.std.specs.List.Sorted.{IsSorted}
use Rattle.std.specs.Ordering.{int_cmp, is_lt, nat_cmp, ordering_reverse, ordering_then}
use Rattle.std.specs.declared.vec.Vec.{Vec}
use Rattle.std.specs.declared.cmp.Ordering.{Ordering}
use Rattle.std.specs.declared.cmp.Ordering.TheVariants.{Less, Equal, Greater}
use Rattle.std.proofs.lemmas.Cmp.{by_ranked, int_ranked, nat_cmp_total, nat_list_cmp_total, tied_itself}
use Rattle.std.proofs.lemmas.Int.{ints}
use Rattle.std.proofs.lemmas.List.{drop_more, take-append-le, take_all}
use Rattle.std.proofs.lemmas.List.Elements.{All-map}
use Rattle.std.specs.List.Sorted.{IsPermutation}
use Rattle.std.proofs.lemmas.List.Sorted.{IsPermutation-map}
use Rattle.mz_base.specs.Data.{DataLists}
use Rattle.mz_base.specs.declared.lattice.Lattice.{Lattice}
use Rattle.mz_base.specs.declared.lattice.Span.{Span}
use Rattle.conversion_meaning.specs.Bounds.{IsWithin}
use Rattle.viterbi.specs.Table.{most_reached}
use Rattle.nbest.specs.Searches.{AreSiblings, longer_tails, ordinals_to, sibling, siblings, with_entry}
use Rattle.nbest.specs.declared.join.Join.{Join}
use Rattle.nbest.specs.declared.tail.Sibling.{Sibling}
use Rattle.nbest.specs.declared.tail.Tail.{Tail}
use Rattle.nbest.specs.Tails.{Ending, IsFamily, IsInOrder, IsNotBehind, begun_by, but_first, ending, family, sibling_cmp, siblings_of}

-- ---- The order of endings

not_greater : (p q : List ℕ) → is_lt (slice_cmp nat_cmp q p) ≡ false → slice_cmp nat_cmp p q ≢ Greater
not_greater p q fails more =
    let back : slice_cmp nat_cmp q p ≡ Less = nat_list_cmp_total.antisymm q p ∙ ap ordering_reverse more in
    let clash : true ≡ false = sym (ap is_lt back) ∙ fails in
    cc

not_less : (p q : List ℕ) → slice_cmp nat_cmp p q ≢ Greater → slice_cmp nat_cmp q p ≢ Less
not_less p q h less = h (nat_list_cmp_total.antisymm p q ∙ ap ordering_reverse less)

not_greater-trans : (p q r : List ℕ) → slice_cmp nat_cmp p q ≢ Greater → slice_cmp nat_cmp q r ≢ Greater → slice_cmp nat_cmp p r ≢ Greater
not_greater-trans p q r first second = by_order (slice_cmp nat_cmp p q) refl (slice_cmp nat_cmp q r) refl
  where
    clash : Less ≡ Greater → ⊥
    clash e = let f : Less ≡ Greater = e in cc

    by_order : (o : Ordering) → slice_cmp nat_cmp p q ≡ o → (u : Ordering) → slice_cmp nat_cmp q r ≡ u → slice_cmp nat_cmp p r ≢ Greater
    by_order Greater is u other more = first is
    by_order Equal is u other more = second (sym (nat_list_cmp_total.congr p q r is) ∙ more)
    by_order Less is Greater other more = second other
    by_order Less is Less other more =
        clash (sym (nat_list_cmp_total.trans p q r is other) ∙ more)
    by_order Less is Equal other more =
        let back : slice_cmp nat_cmp r q ≡ Equal = nat_list_cmp_total.antisymm r q ∙ ap ordering_reverse other in
        let less : slice_cmp nat_cmp r p ≡ Less = nat_list_cmp_total.antisymm r p ∙ ap ordering_reverse more in
        let same : slice_cmp nat_cmp r p ≡ slice_cmp nat_cmp q p = nat_list_cmp_total.congr r q p back in
        let far : slice_cmp nat_cmp p q ≡ Greater = nat_list_cmp_total.antisymm p q ∙ ap ordering_reverse (sym same ∙ less) in
        clash (sym is ∙ far)

pub IsNotBehind-trans : (e f g : Ending) → IsNotBehind e f → IsNotBehind f g → IsNotBehind e g
IsNotBehind-trans e f g (inl a) (inl b) = inl (omega (arith, ints, a, b))
IsNotBehind-trans e f g (inl a) (inr b) = let same = b.0 in inl (omega (arith, ints, a, same))
IsNotBehind-trans e f g (inr a) (inl b) = let same = a.0 in inl (omega (arith, ints, same, b))
IsNotBehind-trans e f g (inr a) (inr b) =
    inr (a.0 ∙ b.0, not_greater-trans e.ordinals f.ordinals g.ordinals a.1 b.1)

-- by the estimate, and then by lists of which the first is not above the second
pub IsNotBehind-from : (e f : Ending) (more : Ordering) → is_lt (ordering_then (int_cmp f.estimate e.estimate) (ordering_then (slice_cmp nat_cmp f.ordinals e.ordinals) more)) ≡ false → IsNotBehind e f
IsNotBehind-from e f more fails =
    by_ranked _ _ _ (int_cmp f.estimate e.estimate) (int_ranked f.estimate e.estimate _ refl) (λ less _. absurd (let clash : true ≡ false = sym (ap (λ o. is_lt (ordering_then o (ordering_then (slice_cmp nat_cmp f.ordinals e.ordinals) more))) less) ∙ fails in cc)) (λ tie same. inr (sym same, rest (slice_cmp nat_cmp f.ordinals e.ordinals) refl (sym (ap (λ o. is_lt (ordering_then o (ordering_then (slice_cmp nat_cmp f.ordinals e.ordinals) more))) tie) ∙ fails))) (λ _ above. inl above)
  where
    rest : (o : Ordering) → slice_cmp nat_cmp f.ordinals e.ordinals ≡ o → is_lt (ordering_then o more) ≡ false → slice_cmp nat_cmp e.ordinals f.ordinals ≢ Greater
    rest Less is lt = absurd (let clash : true ≡ false = lt in cc)
    rest Equal is lt = not_greater e.ordinals f.ordinals (ap is_lt is)
    rest Greater is lt = not_greater e.ordinals f.ordinals (ap is_lt is)

-- ---- Siblings in order

-- with one entry more, the lists are in the order of those entries
cmp-push : (tail : List ℕ) (o x : ℕ) → slice_cmp nat_cmp (tail ++ o ∷ []) (tail ++ x ∷ []) ≡ nat_cmp o x
cmp-push [] o x = by_order (nat_cmp o x)
  where
    by_order : (u : Ordering) → ordering_then u Equal ≡ u
    by_order Less = refl
    by_order Equal = refl
    by_order Greater = refl
cmp-push (y ∷ tail) o x =
    ap (λ u. ordering_then u (slice_cmp nat_cmp (tail ++ o ∷ []) (tail ++ x ∷ []))) (tied_itself nat_cmp_total y) ∙ cmp-push tail o x

-- what all cost more leaves the order of costs
int_cmp-add : (x y rest : ℤ) → int_cmp (x +ℤ rest) (y +ℤ rest) ≡ int_cmp x y
int_cmp-add x y rest =
    by_ranked _ _ _ (int_cmp (x +ℤ rest) (y +ℤ rest)) (int_ranked (x +ℤ rest) (y +ℤ rest) _ refl) (λ e l. by_ranked _ _ _ (int_cmp x y) (int_ranked x y _ refl) (λ f m. e ∙ sym f) (λ f m. absurd (omega (arith, ints, l, m))) (λ f m. absurd (omega (arith, ints, l, m)))) (λ e l. by_ranked _ _ _ (int_cmp x y) (int_ranked x y _ refl) (λ f m. absurd (omega (arith, ints, l, m))) (λ f m. e ∙ sym f) (λ f m. absurd (omega (arith, ints, l, m)))) (λ e l. by_ranked _ _ _ (int_cmp x y) (int_ranked x y _ refl) (λ f m. absurd (omega (arith, ints, l, m))) (λ f m. absurd (omega (arith, ints, l, m))) (λ f m. e ∙ sym f))

begun-order : (tail : List ℕ) (rest : ℤ) (s t : Sibling) → is_lt (sibling_cmp t s) ≡ false → IsNotBehind (begun_by tail rest s) (begun_by tail rest t)
begun-order tail rest s t fails =
    IsNotBehind-from (begun_by tail rest s) (begun_by tail rest t) Equal (ap (λ u. is_lt (ordering_then (int_cmp (t.added +ℤ rest) (s.added +ℤ rest)) u)) (by_order (slice_cmp nat_cmp (tail ++ t.ordinal ∷ []) (tail ++ s.ordinal ∷ [])) ∙ cmp-push tail t.ordinal s.ordinal) ∙ (ap (λ u. is_lt (ordering_then u (nat_cmp t.ordinal s.ordinal))) (int_cmp-add t.added s.added rest) ∙ fails))
  where
    by_order : (u : Ordering) → ordering_then u Equal ≡ u
    by_order Less = refl
    by_order Equal = refl
    by_order Greater = refl

All-behind : (e f : Ending) (rest : List Ending) → IsNotBehind e f → All (IsNotBehind f) rest → All (IsNotBehind e) (f ∷ rest)
All-behind e f rest first all zero d inside = first
All-behind e f rest first all (suc k) d inside =
    IsNotBehind-trans e f (get_or rest k d) first (all k d (omega (arith, inside)))

pub IsInOrder-sorted : (tail : List ℕ) (rest : ℤ) (ss : List Sibling) → IsSorted sibling_cmp ss → IsInOrder (map (begun_by tail rest) ss)
IsInOrder-sorted tail rest [] sorted = tt
IsInOrder-sorted tail rest (s ∷ []) sorted =
    (λ k d inside. absurd (omega (arith, inside)), tt)
IsInOrder-sorted tail rest (s ∷ (t ∷ ss)) sorted =
    let behind = IsInOrder-sorted tail rest (t ∷ ss) (λ k d low high. sym (ap (λ m. is_lt (sibling_cmp (get_or (s ∷ (t ∷ ss)) m d) (get_or (t ∷ ss) k d))) (let e : suc k + 1 ≡ suc (k + 1) = omega arith in e)) ∙ sorted (suc k) d (omega arith) (omega (arith, high))) in
    let first = begun-order tail rest s t (sorted 0 s (omega arith) (omega arith)) in
    (All-behind (begun_by tail rest s) (begun_by tail rest t) (map (begun_by tail rest) ss) first behind.0, behind)

-- ---- The next sibling

-- vectors that are the same have the same items
pub items-same : {X Z : Type 0} (v w : Vec X Z) → v ≡ w → v.items ≡ w.items
items-same {X} {Z} v w same = ap (λ (x : Vec X Z). x.items) same

pub but_first-push : (tail : List ℕ) (o : ℕ) → but_first (tail ++ o ∷ []) ≡ tail
but_first-push tail o =
    let n = length-append tail (o ∷ []) in
    let e : length (tail ++ o ∷ []) - 1 ≡ length tail = omega (arith, n) in
    ap (λ k. take k (tail ++ o ∷ [])) e ∙ (take-append-le (length tail) tail (o ∷ []) (omega arith) ∙ take_all (length tail) tail (omega arith))

-- the siblings from a place on, which the tail at that place is the first of
pub siblings-next : (ordinals : List ℕ) (rest : ℤ) (ss : List Sibling) (n : ℕ) (s : Sibling) → n < length ss → get_or ss n s ≡ s → map (begun_by (but_first ordinals) rest) (drop n ss) ≡ record { estimate = s.added +ℤ rest; ordinals = but_first ordinals ++ s.ordinal ∷ [] } ∷ map (begun_by (but_first (but_first ordinals ++ s.ordinal ∷ [])) rest) (drop (n + 1) ss)
siblings-next ordinals rest ss n s inside is =
    ap (map (begun_by (but_first ordinals) rest)) (drop_more ss n s inside) ∙ (ap (λ t. begun_by (but_first ordinals) rest t ∷ map (begun_by (but_first ordinals) rest) (drop (n + 1) ss)) is ∙ ap (λ os. begun_by (but_first ordinals) rest s ∷ map (begun_by os rest) (drop (n + 1) ss)) (sym (but_first-push (but_first ordinals) s.ordinal)))

-- its estimate is within the bounds
pub next_within : (t : Tail) (s : Sibling) → IsFamily t → t.next < length (siblings_of t) → get_or (siblings_of t) t.next s ≡ s → IsWithin (3 * most_reached) (s.added +ℤ t.rest)
next_within t s is inside same =
    let small : All (λ (e : Ending). IsWithin (3 * most_reached) e.estimate) (ending t ∷ (record { estimate = s.added +ℤ t.rest; ordinals = but_first t.ordinals ++ s.ordinal ∷ [] } ∷ map (begun_by (but_first (but_first t.ordinals ++ s.ordinal ∷ [])) t.rest) (drop (t.next + 1) (siblings_of t)))) = subst (λ es. All (λ (e : Ending). IsWithin (3 * most_reached) e.estimate) (ending t ∷ es)) (siblings-next t.ordinals t.rest (siblings_of t) t.next s inside same) is.small in
    small 1 (ending t) (omega arith)

-- ---- The first sibling, with the others

family-first : (tail : List ℕ) (rest : ℤ) (ss : List Sibling) (s : Sibling) → 0 < length ss → get_or ss 0 s ≡ s → (begun_by tail rest s ∷ map (begun_by (but_first (tail ++ s.ordinal ∷ [])) rest) (drop 1 ss)) ≡ map (begun_by tail rest) ss
family-first tail rest [] s some is = absurd (omega (arith, some))
family-first tail rest (x ∷ ss) s some is =
    ap (λ os. begun_by tail rest s ∷ map (begun_by os rest) ss) (but_first-push tail s.ordinal) ∙ ap (λ y. begun_by tail rest y ∷ map (begun_by tail rest) ss) (sym is)

within-sum : (a b : ℤ) → IsWithin (2 * most_reached) a → IsWithin most_reached b → IsWithin (3 * most_reached) (a +ℤ b)
within-sum a b p q =
    let pa = p.above in
    let pb = p.below in
    let qa = q.above in
    let qb = q.below in
    record { above = omega (arith, ints, pa, qa); below = omega (arith, ints, pb, qb) }

-- a tail that its first sibling begins
module _ (tail : List ℕ) (rest : ℤ) (t : Tail) (s : Sibling) (some : 0 < length (siblings_of t)) (is : get_or (siblings_of t) 0 s ≡ s) (cost_is : t.estimate ≡ s.added +ℤ rest) (ordinals_are : t.ordinals ≡ tail ++ s.ordinal ∷ []) (next_is : t.next ≡ 1) (rest_is : t.rest ≡ rest) where
  pub family-begun : family t ≡ map (begun_by tail rest) (siblings_of t)
  family-begun =
      ap (λ z. record { estimate = z; ordinals = t.ordinals } ∷ map (begun_by (but_first t.ordinals) t.rest) (drop t.next (siblings_of t))) cost_is ∙ (ap (λ os. record { estimate = s.added +ℤ rest; ordinals = os } ∷ map (begun_by (but_first os) t.rest) (drop t.next (siblings_of t))) ordinals_are ∙ (ap (λ n. begun_by tail rest s ∷ map (begun_by (but_first (tail ++ s.ordinal ∷ [])) t.rest) (drop n (siblings_of t))) next_is ∙ (ap (λ z. begun_by tail rest s ∷ map (begun_by (but_first (tail ++ s.ordinal ∷ [])) z) (drop 1 (siblings_of t))) rest_is ∙ family-first tail rest (siblings_of t) s some is)))

  pub IsFamily-begun : IsSorted sibling_cmp (siblings_of t) → All (λ (x : Sibling). IsWithin (2 * most_reached) x.added) (siblings_of t) → IsWithin most_reached rest → IsFamily t
  IsFamily-begun sorted small within = record {
    some = (let n = length-append tail (s.ordinal ∷ []) in let m = ap length ordinals_are in omega (arith, n, m));
    order = subst (λ es. IsInOrder es) (sym family-begun) (IsInOrder-sorted tail rest (siblings_of t) sorted);
    small = subst (λ es. All (λ (e : Ending). IsWithin (3 * most_reached) e.estimate) es) (sym family-begun) (All-map (λ (e : Ending). IsWithin (3 * most_reached) e.estimate) (begun_by tail rest) (siblings_of t) (λ k d inside. within-sum (get_or (siblings_of t) k d).added rest (small k d inside) within));
  }

-- the longer tails are those that a tail's siblings begin
pub longer_tails-begun : (d : DataLists) (l : Lattice) (span : Span) (costs : List ℤ) (tail : List ℕ) (join : Join) (ss : List Sibling) → AreSiblings d l span costs join.begin join.lid ss → IsPermutation (longer_tails d l span costs tail join) (map (begun_by tail join.rest) ss)
longer_tails-begun d l span costs tail join ss are =
    subst (λ es. IsPermutation es (map (begun_by tail join.rest) ss)) (begun (ordinals_to l.entries l.by_end span join.begin)) (IsPermutation-map (begun_by tail join.rest) (siblings d l span costs join.begin join.lid) ss are.are)
  where
    begun : (os : List ℕ) → map (begun_by tail join.rest) (map (sibling d l.entries costs join.lid) os) ≡ map (with_entry d l.entries costs tail join) os
    begun [] = refl
    begun (o ∷ os) = ap (λ es. with_entry d l.entries costs tail join o ∷ es) (begun os)
