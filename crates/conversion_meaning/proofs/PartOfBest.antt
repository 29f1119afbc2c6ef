-- A part of a best path is the best path over its span.
use Rattle.std.proofs.Common.{◌≡◌, refl, sym, ap, ◌∙◌, subst, ℕ, ◌<◌, ◌≤◌, ◌==◌, true, false, ◌⊎◌, inl, inr, List, [], ◌∷◌, ◌++◌, None, length, append_assoc, append-nil, arith}
use Rattle.std.specs.Prelude.{◌≢◌, ℤ, pos, ◌+ℤ◌, find, reverse}
use Rattle.std.specs.declared.cmp.Ordering.TheVariants.{Less, Equal, Greater}
use Rattle.std.specs.Cmp.{nat_cmp_is}
use Rattle.std.specs.Cmp.Lexicographic.{slice_cmp}
use Rattle.std.specs.Option.{option_map_or}
use Rattle.std.specs.Ordering.{nat_cmp, ordering_then}
use Rattle.std.proofs.lemmas.Bool.Decides.{nat_tests}
use Rattle.std.proofs.lemmas.Cmp.{by_ranked, ranked}
use Rattle.std.proofs.lemmas.Int.{ints}
use Rattle.std.proofs.lemmas.List.{length-reverse, reverse-append, reverse-reverse}
use Rattle.mz_base.specs.Data.{DataLists, connection}
use Rattle.mz_base.specs.declared.lattice.Entry.{Entry}
use Rattle.mz_base.specs.declared.lattice.Span.{Span}
use Rattle.conversion_meaning.specs.Best.{IsBest}
use Rattle.conversion_meaning.specs.Lattices.{entry}
use Rattle.conversion_meaning.specs.Order.{IsBefore, IsLowerFromLast}
use Rattle.conversion_meaning.specs.Paths.{IsPath, IsPathOver, cost_between, path_cost}
use Rattle.conversion_meaning.specs.Segments.{id_after, id_before}
use Rattle.conversion_meaning.proofs.Duality.{AreForward, IsPath-forward}
use Rattle.conversion_meaning.proofs.InOrderLemmas.{apart}
use Rattle.conversion_meaning.proofs.Ordered.{not_before_back, order_cases}
use Rattle.conversion_meaning.proofs.Recurrence.{only_nothing}

-- ---- Lists in order, put between others

-- the second list goes on where the first is over
abbrev HasMore : List ℕ → List ℕ → Type 0
HasMore p q = (z : ℕ) × (zs : List ℕ) × (q ≡ p ++ z ∷ zs)

-- it stays less, whatever follows
abbrev StaysLess : List ℕ → List ℕ → Type 0
StaysLess p q = (us vs : List ℕ) → slice_cmp nat_cmp (p ++ us) (q ++ vs) ≡ Less

less_cases : (p q : List ℕ) → slice_cmp nat_cmp p q ≡ Less → HasMore p q ⊎ StaysLess p q
less_cases [] [] h = absurd (let clash : Equal ≡ Less = h in cc)
less_cases [] (y ∷ q) h = inl (y, q, refl)
less_cases (x ∷ p) [] h = absurd (let clash : Greater ≡ Less = h in cc)
less_cases (x ∷ p) (y ∷ q) h =
    by_ranked _ _ _ (nat_cmp x y) (ranked x y (nat_cmp x y) refl) (λ is _. inr (first is)) (λ is same. more is same (less_cases p q (rest is))) (λ is _. absurd (never is))
  where
    first : nat_cmp x y ≡ Less → StaysLess (x ∷ p) (y ∷ q)
    first is us vs = ap (λ o. ordering_then o (slice_cmp nat_cmp (p ++ us) (q ++ vs))) is

    rest : nat_cmp x y ≡ Equal → slice_cmp nat_cmp p q ≡ Less
    rest is = sym (ap (λ o. ordering_then o (slice_cmp nat_cmp p q)) is) ∙ h

    never : nat_cmp x y ≡ Greater → ⊥
    never is =
        let clash : Greater ≡ Less = sym (ap (λ o. ordering_then o (slice_cmp nat_cmp p q)) is) ∙ h in
        cc

    more : nat_cmp x y ≡ Equal → x ≡ y → HasMore p q ⊎ StaysLess p q → HasMore (x ∷ p) (y ∷ q) ⊎ StaysLess (x ∷ p) (y ∷ q)
    more is same (inl r) =
        inl (r.0, r.1, ap (λ w. w ∷ q) (sym same) ∙ ap (λ w. x ∷ w) r.2)
    more is same (inr less) =
        inr (λ us vs. ap (λ o. ordering_then o (slice_cmp nat_cmp (p ++ us) (q ++ vs))) is ∙ less us vs)

compared-front : (r p q : List ℕ) → slice_cmp nat_cmp (r ++ p) (r ++ q) ≡ slice_cmp nat_cmp p q
compared-front [] p q = refl
compared-front (x ∷ r) p q =
    let same : nat_cmp x x ≡ Equal = sym (nat_cmp_is x x Equal refl) in
    ap (λ o. ordering_then o (slice_cmp nat_cmp (r ++ p) (r ++ q))) same ∙ compared-front r p q

-- a list between two others, from its last
reverse-between : (a m b : List ℕ) → reverse (a ++ (m ++ b)) ≡ reverse b ++ (reverse m ++ reverse a)
reverse-between a m b =
    reverse-append a (m ++ b) ∙ (ap (λ w. w ++ reverse a) (reverse-append m b) ∙ append_assoc (reverse b) (reverse m) (reverse a))

-- ---- Paths, put between others

IsPath-append : (es : List Entry) (a b c : ℕ) (p q : List ℕ) → IsPath es a b p → IsPath es b c q → IsPath es a c (p ++ q)
IsPath-append es a b c [] q first second = subst (λ x. IsPath es x c q) (sym first) second
IsPath-append es a b c (o ∷ p) q first second =
    (first.0, first.1, IsPath-append es (entry es o).end b c p q first.2 second)

IsPath-split : (es : List Entry) (a c : ℕ) (p q : List ℕ) → IsPath es a c (p ++ q) → (b : ℕ) × IsPath es a b p × IsPath es b c q
IsPath-split es a c [] q joined = (a, refl, joined)
IsPath-split es a c (o ∷ p) q joined =
    let r = IsPath-split es (entry es o).end c p q joined.2 in
    (r.0, (joined.0, joined.1, r.1), r.2)

-- a path begins at one position
one_begin : (es : List Entry) (a b c : ℕ) (q : List ℕ) → IsPath es a c q → IsPath es b c q → b ≡ a
one_begin es a b c [] first second = second ∙ sym first
one_begin es a b c (o ∷ q) first second = sym second.1 ∙ first.1

-- a path is no end of a longer one over the same span
no_more : (es : List Entry) → AreForward es → (a b : ℕ) (p q : List ℕ) → IsPath es a b p → IsPath es a b q → ¬ (HasMore (reverse p) (reverse q))
no_more es forward a b p q first second more =
    let xs = reverse (more.0 ∷ more.1) in
    let is : q ≡ xs ++ p = sym (reverse-reverse q) ∙ (ap reverse more.2 ∙ (reverse-append (reverse p) (more.0 ∷ more.1) ∙ ap (λ w. xs ++ w) (reverse-reverse p))) in
    let r = IsPath-split es a b xs p (subst (λ w. IsPath es a b w) is second) in
    let none : xs ≡ [] = only_nothing es forward a xs (subst (λ x. IsPath es a x xs) (one_begin es a r.0 b p first r.2) r.1) in
    let long : length xs ≡ length (more.0 ∷ more.1) = length-reverse (more.0 ∷ more.1) in
    let short : length xs ≡ 0 = ap length none in
    omega (arith, long, short)

-- the lower path makes the whole lower
lower-between : (es : List Entry) → AreForward es → (from to : ℕ) (a p q b : List ℕ) → IsPath es from to p → IsPath es from to q → IsLowerFromLast p q → IsLowerFromLast (a ++ (p ++ b)) (a ++ (q ++ b))
lower-between es forward from to a p q b first second lower =
    by_case (less_cases (reverse p) (reverse q) lower)
  where
    by_case : HasMore (reverse p) (reverse q) ⊎ StaysLess (reverse p) (reverse q) → IsLowerFromLast (a ++ (p ++ b)) (a ++ (q ++ b))
    by_case (inl more) = absurd (no_more es forward from to p q first second more)
    by_case (inr less) =
        ap (λ w. slice_cmp nat_cmp w (reverse (a ++ (q ++ b)))) (reverse-between a p b) ∙ (ap (λ w. slice_cmp nat_cmp (reverse b ++ (reverse p ++ reverse a)) w) (reverse-between a q b) ∙ (compared-front (reverse b) (reverse p ++ reverse a) (reverse q ++ reverse a) ∙ less (reverse a) (reverse a)))

-- ---- Costs

module _ (d : DataLists) (es : List Entry) where
  -- the right id of the last entry, or else this one
  abbrev pub rid_after : ℕ → List ℕ → ℕ
  rid_after left [] = left
  rid_after left (o ∷ path) = rid_after (entry es o).rid path

  -- the left id of the first entry, or else this one
  abbrev pub lid_before : ℕ → List ℕ → ℕ
  lid_before right [] = right
  lid_before right (o ∷ path) = (entry es o).lid

  -- what comes before costs the same whatever follows
  cost-front : (left right : ℕ) (a : List ℕ) → (k : ℤ) × ((rest : List ℕ) → cost_between d es left right (a ++ rest) ≡ k +ℤ cost_between d es (rid_after left a) right rest)
  cost-front left right [] = (pos 0, λ rest. omega (arith, ints))
  cost-front left right (o ∷ a) =
      let r = cost-front (entry es o).rid right a in
      (connection d left (entry es o).lid +ℤ ((entry es o).cost +ℤ r.0), λ rest. (let e = r.1 rest in omega (arith, ints, e)))

  cost-back_cons : (right o : ℕ) (b : List ℕ) (left : ℕ) (m : List ℕ) → cost_between d es left right (m ++ o ∷ b) ≡ cost_between d es left (entry es o).lid m +ℤ ((entry es o).cost +ℤ cost_between d es (entry es o).rid right b)
  cost-back_cons right o b left [] = omega (arith, ints)
  cost-back_cons right o b left (x ∷ m) =
      let e = cost-back_cons right o b (entry es x).rid m in
      omega (arith, ints, e)

  -- and what comes after, whatever is before
  cost-back : (right : ℕ) (b : List ℕ) → (k : ℤ) × ((left : ℕ) (m : List ℕ) → cost_between d es left right (m ++ b) ≡ cost_between d es left (lid_before right b) m +ℤ k)
  cost-back right [] =
      (pos 0, λ left m. (let e : cost_between d es left right (m ++ []) ≡ cost_between d es left right m = ap (cost_between d es left right) (append-nil m) in omega (arith, ints, e)))
  cost-back right (o ∷ b) =
      ((entry es o).cost +ℤ cost_between d es (entry es o).rid right b, cost-back_cons right o b)

  module _ (forward : AreForward es) (span part : Span) (a b : List ℕ) (left : part.left ≡ rid_after span.left a) (right : part.right ≡ lid_before span.right b) where
    cost-between_is : (k : ℤ) × ((m : List ℕ) → path_cost d es span (a ++ (m ++ b)) ≡ k +ℤ path_cost d es part m)
    cost-between_is =
        let f = cost-front span.left span.right a in
        let g = cost-back span.right b in
        (f.0 +ℤ g.0, λ m. sum f.0 g.0 m (f.1 (m ++ b)) (g.1 (rid_after span.left a) m))
      where
        sum : (k h : ℤ) (m : List ℕ) → cost_between d es span.left span.right (a ++ (m ++ b)) ≡ k +ℤ cost_between d es (rid_after span.left a) span.right (m ++ b) → cost_between d es (rid_after span.left a) span.right (m ++ b) ≡ cost_between d es (rid_after span.left a) (lid_before span.right b) m +ℤ h → path_cost d es span (a ++ (m ++ b)) ≡ (k +ℤ h) +ℤ path_cost d es part m
        sum k h m first second =
            let l : cost_between d es part.left part.right m ≡ cost_between d es (rid_after span.left a) part.right m = ap (λ x. cost_between d es x part.right m) left in
            let r : cost_between d es (rid_after span.left a) part.right m ≡ cost_between d es (rid_after span.left a) (lid_before span.right b) m = ap (λ x. cost_between d es (rid_after span.left a) x m) right in
            omega (arith, ints, first, second, l, r)

    -- a better part makes a better whole
    before-between : (p q : List ℕ) → IsPathOver es part p → IsPathOver es part q → IsBefore d es part p q → IsBefore d es span (a ++ (p ++ b)) (a ++ (q ++ b))
    before-between p q first second (inl less) =
        let e = cost-between_is.1 p in
        let f = cost-between_is.1 q in
        inl (omega (arith, ints, e, f, less))
    before-between p q first second (inr tie) =
        let e = cost-between_is.1 p in
        let f = cost-between_is.1 q in
        let same = tie.0 in
        inr (omega (arith, ints, e, f, same), lower-between es forward part.begin part.end a p q b first second tie.1)

    -- so a part of the best path is the best
    pub IsBest-part : (m : List ℕ) → IsPath es span.begin part.begin a → IsPathOver es part m → IsPath es part.end span.end b → IsBest d es span (a ++ (m ++ b)) → IsBest d es part m
    IsBest-part m before joined after best =
        record { joined = joined; first = λ q over differ. by_order q over differ (order_cases d es part m q) }
      where
        by_order : (q : List ℕ) → IsPathOver es part q → q ≢ m → (m ≡ q) ⊎ (IsBefore d es part m q ⊎ IsBefore d es part q m) → IsBefore d es part m q
        by_order q over differ (inl same) = absurd (differ (sym same))
        by_order q over differ (inr (inl first)) = first
        by_order q over differ (inr (inr later)) =
            let better = before-between q m over joined later in
            let whole = IsPath-append es span.begin part.begin span.end a (q ++ b) before (IsPath-append es part.begin part.end span.end q b over after) in
            absurd (not_before_back d es span (a ++ (q ++ b)) (a ++ (m ++ b)) better (best.first (a ++ (q ++ b)) whole (apart d es span (a ++ (q ++ b)) (a ++ (m ++ b)) better)))

-- ---- The ids on the borders of a part

module _ (es : List Entry) (forward : AreForward es) where
  none_ends : (here from to : ℕ) (path : List ℕ) → here ≤ from → IsPath es from to path → find (λ o. (entry es o).end == here) path ≡ None
  none_ends here from to [] low joined = refl
  none_ends here from to (o ∷ path) low joined =
      let this : (entry es o).begin < (entry es o).end = forward o joined.0 in
      let begins = joined.1 in
      let other : ((entry es o).end == here) ≡ false = grind (arith, nat_tests) in
      rw other (none_ends here (entry es o).end to path (omega (arith, this, begins)) joined.2)

  pub id_before-is : (d : DataLists) (from here to : ℕ) (a rest : List ℕ) → IsPath es from here a → IsPath es here to rest → id_before es (a ++ rest) here ≡ rid_after d es 0 a
  id_before-is d from here to [] rest first second =
      ap (λ found. option_map_or (λ o. (entry es o).rid) found 0) (none_ends here here to rest (omega arith) second)
  id_before-is d from here to (o ∷ []) rest first second =
      let ends = first.2 in
      let this : ((entry es o).end == here) ≡ true = grind (arith, nat_tests) in
      rw this refl
  id_before-is d from here to (o ∷ (x ∷ a)) rest first second =
      let more = first.2 in
      let ahead : (entry es x).begin < (entry es x).end = forward x more.0 in
      let last : (entry es x).end ≤ here = IsPath-forward es forward (entry es x).end here a more.2 in
      let begins = more.1 in
      let other : ((entry es o).end == here) ≡ false = grind (arith, nat_tests) in
      rw other (id_before-is d (entry es o).end here to (x ∷ a) rest more second)

  pub id_after-is : (d : DataLists) (from here to : ℕ) (a b : List ℕ) → IsPath es from here a → IsPath es here to b → id_after es (a ++ b) here ≡ lid_before d es 0 b
  id_after-is d from here to [] [] first second = refl
  id_after-is d from here to [] (o ∷ b) first second =
      let begins = second.1 in
      let this : ((entry es o).begin == here) ≡ true = grind (arith, nat_tests) in
      rw this refl
  id_after-is d from here to (o ∷ a) b first second =
      let ahead : (entry es o).begin < (entry es o).end = forward o first.0 in
      let last : (entry es o).end ≤ here = IsPath-forward es forward (entry es o).end here a first.2 in
      let other : ((entry es o).begin == here) ≡ false = grind (arith, nat_tests) in
      rw other (id_after-is d (entry es o).end here to a b first.2 second)
