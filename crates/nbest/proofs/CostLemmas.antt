-- The potentials of a span by ordinal are the least costs of its entries.
use Rattle.std.proofs.Common.{◌≡◌, refl, sym, ap, ◌∙◌, ℕ, zero, suc, ◌+◌, ◌-◌, ◌<◌, ◌≤◌, Bool, true, false, cond, ltb, List, [], ◌∷◌, ◌++◌, length, get_or, arith, append_assoc, append-nil}
use Rattle.std.specs.Prelude.{ℤ, pos, replicate}
use Rattle.std.specs.List.{filter, range_with_len}
use Rattle.std.specs.List.Sorted.{IsPartitionPoint}
use Rattle.std.proofs.lemmas.Bool.Decides.{nat_tests}
use Rattle.std.proofs.lemmas.List.{get_or-append_right, length-replicate}
use Rattle.std.proofs.lemmas.List.FromFn.{get_or-range_with_len, length-range_with_len}
use Rattle.mz_base.specs.declared.lattice.Entry.{Entry}
use Rattle.mz_base.specs.declared.lattice.Span.{Span}
use Rattle.conversion_meaning.specs.Lattices.{entry, no_entry}
use Rattle.conversion_meaning.specs.Potentials.{is_in}
use Rattle.nbest.specs.Costs.{begins_at, by_ordinal, padded}

module _ (p : ℕ → Bool) (potentials : List ℤ) where
  first : (o n next : ℕ) → o < n → by_ordinal p (range_with_len o (n - o)) potentials next ≡ by_ordinal p (o ∷ range_with_len (o + 1) (n - (o + 1))) potentials next
  first o n next low =
      let one : n - o ≡ suc (n - (o + 1)) = omega (arith, low) in
      ap (λ m. by_ordinal p (range_with_len o m) potentials next) one

  pub by_ordinal-kept : (o n next : ℕ) (out whole : List ℤ) → o < n → p o ≡ true → out ++ by_ordinal p (range_with_len o (n - o)) potentials next ≡ whole → (out ++ get_or potentials next (pos 0) ∷ []) ++ by_ordinal p (range_with_len (o + 1) (n - (o + 1))) potentials (next + 1) ≡ whole
  unfolding by_ordinal
  by_ordinal-kept o n next out whole low passes h =
      let here : by_ordinal p (o ∷ range_with_len (o + 1) (n - (o + 1))) potentials next ≡ get_or potentials next (pos 0) ∷ by_ordinal p (range_with_len (o + 1) (n - (o + 1))) potentials (next + 1) = ap (λ b. cond b (get_or potentials next (pos 0) ∷ by_ordinal p (range_with_len (o + 1) (n - (o + 1))) potentials (next + 1)) (pos 0 ∷ by_ordinal p (range_with_len (o + 1) (n - (o + 1))) potentials next)) passes in
      append_assoc out (get_or potentials next (pos 0) ∷ []) (by_ordinal p (range_with_len (o + 1) (n - (o + 1))) potentials (next + 1)) ∙ (ap (λ r. out ++ r) (sym (first o n next low ∙ here)) ∙ h)

  pub by_ordinal-skipped : (o n next : ℕ) (out whole : List ℤ) → o < n → p o ≡ false → out ++ by_ordinal p (range_with_len o (n - o)) potentials next ≡ whole → (out ++ pos 0 ∷ []) ++ by_ordinal p (range_with_len (o + 1) (n - (o + 1))) potentials next ≡ whole
  unfolding by_ordinal
  by_ordinal-skipped o n next out whole low fails h =
      let here : by_ordinal p (o ∷ range_with_len (o + 1) (n - (o + 1))) potentials next ≡ pos 0 ∷ by_ordinal p (range_with_len (o + 1) (n - (o + 1))) potentials next = ap (λ b. cond b (get_or potentials next (pos 0) ∷ by_ordinal p (range_with_len (o + 1) (n - (o + 1))) potentials (next + 1)) (pos 0 ∷ by_ordinal p (range_with_len (o + 1) (n - (o + 1))) potentials next)) fails in
      append_assoc out (pos 0 ∷ []) (by_ordinal p (range_with_len (o + 1) (n - (o + 1))) potentials next) ∙ (ap (λ r. out ++ r) (sym (first o n next low ∙ here)) ∙ h)

  pub by_ordinal-step : (b : Bool) (o n next : ℕ) (out whole : List ℤ) → o < n → b ≡ p o → out ++ by_ordinal p (range_with_len o (n - o)) potentials next ≡ whole → (out ++ cond b (get_or potentials next (pos 0)) (pos 0) ∷ []) ++ by_ordinal p (range_with_len (o + 1) (n - (o + 1))) potentials (next + cond b 1 0) ≡ whole
  by_ordinal-step true o n next out whole low is h =
      by_ordinal-kept o n next out whole low (sym is) h
  by_ordinal-step false o n next out whole low is h =
      let same : next + 0 ≡ next = omega arith in
      ap (λ m. (out ++ pos 0 ∷ []) ++ by_ordinal p (range_with_len (o + 1) (n - (o + 1))) potentials m) same ∙ by_ordinal-skipped o n next out whole low (sym is) h

  -- the loop's step
  pub by_ordinal-next : (b : Bool) (o n next more : ℕ) (out longer whole : List ℤ) (cost : ℤ) → o < n → b ≡ p o → more ≡ cond b 1 0 → cost ≡ cond b (get_or potentials next (pos 0)) (pos 0) → longer ≡ out ++ cost ∷ [] → out ++ by_ordinal p (range_with_len o (n - o)) potentials next ≡ whole → longer ++ by_ordinal p (range_with_len (o + 1) (n - (o + 1))) potentials (next + more) ≡ whole
  by_ordinal-next b o n next more out longer whole cost low is more_is cost_is longer_is h =
      ap (λ m. longer ++ by_ordinal p (range_with_len (o + 1) (n - (o + 1))) potentials (next + m)) more_is ∙ (ap (λ l. l ++ by_ordinal p (range_with_len (o + 1) (n - (o + 1))) potentials (next + cond b 1 0)) (longer_is ∙ ap (λ x. out ++ x ∷ []) cost_is) ∙ by_ordinal-step b o n next out whole low is h)

  pub by_ordinal-all : (o n next : ℕ) (out whole : List ℤ) → n ≤ o → out ++ by_ordinal p (range_with_len o (n - o)) potentials next ≡ whole → out ≡ whole
  unfolding by_ordinal
  by_ordinal-all o n next out whole past h =
      let none : n - o ≡ 0 = omega (arith, past) in
      sym (append-nil out) ∙ (sym (ap (λ m. out ++ by_ordinal p (range_with_len o m) potentials next) none) ∙ h)

  pub length-by_ordinal : (os : List ℕ) (next : ℕ) → length (by_ordinal p os potentials next) ≡ length os
  unfolding by_ordinal
  length-by_ordinal [] next = refl
  length-by_ordinal (o ∷ os) next =
      by_test (p o) (length-by_ordinal os next) (length-by_ordinal os (next + 1))
    where
      by_test : (b : Bool) → length (by_ordinal p os potentials next) ≡ length os → length (by_ordinal p os potentials (next + 1)) ≡ length os → length (cond b (get_or potentials next (pos 0) ∷ by_ordinal p os potentials (next + 1)) (pos 0 ∷ by_ordinal p os potentials next)) ≡ length (o ∷ os)
      by_test true a b = omega (arith, b)
      by_test false a b = omega (arith, a)

  -- what stands at the ordinal of a place is the potential of its place among those that pass
  abbrev pub IsAt : List ℕ → ℕ → ℕ → Type 0
  IsAt os next i =
      (k : ℕ) × (k < length (filter p os)) × (get_or (by_ordinal p os potentials next) i (pos 0) ≡ get_or potentials (next + k) (pos 0)) × (get_or (filter p os) k 0 ≡ get_or os i 0)

  pub by_ordinal-at : (os : List ℕ) (next i : ℕ) → i < length os → p (get_or os i 0) ≡ true → IsAt os next i
  unfolding by_ordinal
  by_ordinal-at [] next i inside passes = absurd (omega (arith, inside))
  by_ordinal-at (o ∷ os) next zero inside passes =
      rw passes (0, omega arith, ap (λ n. get_or potentials n (pos 0)) (omega arith), refl)
  by_ordinal-at (o ∷ os) next (suc i) inside passes =
      by_test (p o) (λ m. by_ordinal-at os m i (omega (arith, inside)) passes)
    where
      by_test : (b : Bool) → ((m : ℕ) → IsAt os m i) → (k : ℕ) × (k < length (cond b (o ∷ filter p os) (filter p os))) × (get_or (cond b (get_or potentials next (pos 0) ∷ by_ordinal p os potentials (next + 1)) (pos 0 ∷ by_ordinal p os potentials next)) (suc i) (pos 0) ≡ get_or potentials (next + k) (pos 0)) × (get_or (cond b (o ∷ filter p os) (filter p os)) k 0 ≡ get_or (o ∷ os) (suc i) 0)
      by_test true more =
          let r = more (next + 1) in
          let low = r.1 in
          let e : (next + 1) + r.0 ≡ next + suc r.0 = omega arith in
          (suc r.0, omega (arith, low), r.2 ∙ ap (λ n. get_or potentials n (pos 0)) e, r.3)
      by_test false more = let r = more next in (r.0, r.1, r.2, r.3)

  -- the other ordinals have 0
  pub by_ordinal-other : (os : List ℕ) (next i : ℕ) → p (get_or os i 0) ≡ false → get_or (by_ordinal p os potentials next) i (pos 0) ≡ pos 0
  unfolding by_ordinal
  by_ordinal-other [] next i fails = refl
  by_ordinal-other (o ∷ os) next zero fails = rw fails refl
  by_ordinal-other (o ∷ os) next (suc i) fails =
      by_test (p o) (λ m. by_ordinal-other os m i fails)
    where
      by_test : (b : Bool) → ((m : ℕ) → get_or (by_ordinal p os potentials m) i (pos 0) ≡ pos 0) → get_or (cond b (get_or potentials next (pos 0) ∷ by_ordinal p os potentials (next + 1)) (pos 0 ∷ by_ordinal p os potentials next)) (suc i) (pos 0) ≡ pos 0
      by_test true more = more (next + 1)
      by_test false more = more next

  -- ---- The part that takes room

  fails-front : (os rest : List ℕ) (next : ℕ) → ((k : ℕ) → k < length os → p (get_or os k 0) ≡ false) → by_ordinal p (os ++ rest) potentials next ≡ replicate (length os) (pos 0) ++ by_ordinal p rest potentials next
  unfolding by_ordinal
  fails-front [] rest next fails = refl
  fails-front (o ∷ os) rest next fails =
      rw (fails 0 (omega arith)) (ap (λ xs. pos 0 ∷ xs) (fails-front os rest next (λ k low. fails (suc k) (omega (arith, low)))))

  fails-all : (os : List ℕ) (next : ℕ) → ((k : ℕ) → k < length os → p (get_or os k 0) ≡ false) → by_ordinal p os potentials next ≡ replicate (length os) (pos 0)
  unfolding by_ordinal
  fails-all [] next fails = refl
  fails-all (o ∷ os) next fails =
      rw (fails 0 (omega arith)) (ap (λ xs. pos 0 ∷ xs) (fails-all os next (λ k low. fails (suc k) (omega (arith, low)))))

  fails-back : (os rest : List ℕ) (next : ℕ) → ((k : ℕ) → k < length rest → p (get_or rest k 0) ≡ false) → by_ordinal p (os ++ rest) potentials next ≡ by_ordinal p os potentials next ++ replicate (length rest) (pos 0)
  unfolding by_ordinal
  fails-back [] rest next fails = fails-all rest next fails
  fails-back (o ∷ os) rest next fails =
      by_test (p o) (fails-back os rest next fails) (fails-back os rest (next + 1) fails)
    where
      by_test : (b : Bool) → by_ordinal p (os ++ rest) potentials next ≡ by_ordinal p os potentials next ++ replicate (length rest) (pos 0) → by_ordinal p (os ++ rest) potentials (next + 1) ≡ by_ordinal p os potentials (next + 1) ++ replicate (length rest) (pos 0) → cond b (get_or potentials next (pos 0) ∷ by_ordinal p (os ++ rest) potentials (next + 1)) (pos 0 ∷ by_ordinal p (os ++ rest) potentials next) ≡ cond b (get_or potentials next (pos 0) ∷ by_ordinal p os potentials (next + 1)) (pos 0 ∷ by_ordinal p os potentials next) ++ replicate (length rest) (pos 0)
      by_test true here more = ap (λ xs. get_or potentials next (pos 0) ∷ xs) more
      by_test false here more = ap (λ xs. pos 0 ∷ xs) here

range-split : (a m k : ℕ) → range_with_len a (m + k) ≡ range_with_len a m ++ range_with_len (a + m) k
range-split a zero k =
    let e : zero + k ≡ k = omega arith in
    let f : a ≡ a + zero = omega arith in
    ap (range_with_len a) e ∙ ap (λ b. range_with_len b k) f
range-split a (suc m) k =
    let e : suc m + k ≡ suc (m + k) = omega arith in
    let f : (a + 1) + m ≡ a + suc m = omega arith in
    ap (range_with_len a) e ∙ (ap (λ os. a ∷ os) (range-split (a + 1) m k) ∙ ap (λ b. (a ∷ range_with_len (a + 1) m) ++ range_with_len b k) f)

at-range : (a n k : ℕ) → k < n → get_or (range_with_len a n) k 0 ≡ a + k
at-range a n k low = get_or-range_with_len a n k 0 low

-- where the entries before one ordinal and from another on do not pass, those between are enough
pub by_ordinal-padded : (p : ℕ → Bool) (potentials : List ℤ) (n before end : ℕ) → before ≤ end → end ≤ n → ((o : ℕ) → o < before → p o ≡ false) → ((o : ℕ) → end ≤ o → o < n → p o ≡ false) → padded before (by_ordinal p (range_with_len before (end - before)) potentials 0) (n - end) ≡ by_ordinal p (range_with_len 0 n) potentials 0
by_ordinal-padded p potentials n before end low high front back =
    let one : n ≡ before + ((end - before) + (n - end)) = omega (arith, low, high) in
    let start : 0 + before ≡ before = omega arith in
    let past : before + (end - before) ≡ end = omega (arith, low) in
    let parts : range_with_len 0 n ≡ range_with_len 0 before ++ (range_with_len before (end - before) ++ range_with_len end (n - end)) = ap (range_with_len 0) one ∙ (range-split 0 before ((end - before) + (n - end)) ∙ (ap (λ b. range_with_len 0 before ++ range_with_len b ((end - before) + (n - end))) start ∙ (ap (λ os. range_with_len 0 before ++ os) (range-split before (end - before) (n - end)) ∙ ap (λ b. range_with_len 0 before ++ (range_with_len before (end - before) ++ range_with_len b (n - end))) past))) in
    let f = fails-front p potentials (range_with_len 0 before) (range_with_len before (end - before) ++ range_with_len end (n - end)) 0 (λ k inside. (let m = length-range_with_len 0 before in let short : k < before = omega (arith, m, inside) in let e : 0 + k ≡ k = omega arith in ap p (at-range 0 before k short ∙ e) ∙ front k short)) in
    let b = fails-back p potentials (range_with_len before (end - before)) (range_with_len end (n - end)) 0 (λ k inside. (let m = length-range_with_len end (n - end) in let short : k < n - end = omega (arith, m, inside) in ap p (at-range end (n - end) k short) ∙ back (end + k) (omega arith) (omega (arith, short)))) in
    sym (ap (λ os. by_ordinal p os potentials 0) parts ∙ (f ∙ (ap (λ m. replicate m (pos 0) ++ by_ordinal p (range_with_len before (end - before) ++ range_with_len end (n - end)) potentials 0) (length-range_with_len 0 before) ∙ (ap (λ xs. replicate before (pos 0) ++ xs) b ∙ ap (λ m. replicate before (pos 0) ++ (by_ordinal p (range_with_len before (end - before)) potentials 0 ++ replicate m (pos 0))) (length-range_with_len end (n - end))))))

-- ---- What stands at an ordinal

zeros : (n i : ℕ) → get_or (replicate n (pos 0)) i (pos 0) ≡ pos 0
zeros zero i = refl
zeros (suc n) zero = refl
zeros (suc n) (suc i) = zeros n i

pub padded-before : (before : ℕ) (costs : List ℤ) (after o : ℕ) → o < before → get_or (padded before costs after) o (pos 0) ≡ pos 0
padded-before zero costs after o low = absurd (omega (arith, low))
padded-before (suc before) costs after zero low = refl
padded-before (suc before) costs after (suc o) low =
    padded-before before costs after o (omega (arith, low))

padded-from : (costs : List ℤ) (after i : ℕ) → get_or (costs ++ replicate after (pos 0)) i (pos 0) ≡ get_or costs i (pos 0)
padded-from [] after i = zeros after i
padded-from (x ∷ costs) after zero = refl
padded-from (x ∷ costs) after (suc i) = padded-from costs after i

pub padded-at : (before : ℕ) (costs : List ℤ) (after o : ℕ) → before ≤ o → get_or (padded before costs after) o (pos 0) ≡ get_or costs (o - before) (pos 0)
padded-at before costs after o low =
    get_or-append_right (replicate before (pos 0)) (costs ++ replicate after (pos 0)) before o (pos 0) (length-replicate before (pos 0)) low ∙ padded-from costs after (o - before)

-- ---- The entries of a span stand between two places

module _ (es : List Entry) (span : Span) (i j : ℕ) (ahead : (o : ℕ) → o < length es → (entry es o).begin < (entry es o).end) (forward : span.begin ≤ span.end) (within : i ≤ length es) (low : IsPartitionPoint (λ (e : Entry). ltb (begins_at e) span.begin ≡ true) (λ (e : Entry). ltb (begins_at e) span.begin ≡ false) es i) (high : IsPartitionPoint (λ (e : Entry). ltb (begins_at e) span.end ≡ true) (λ (e : Entry). ltb (begins_at e) span.end ≡ false) es j) where
  pub places-in_order : i ≤ j
  places-in_order = by_test (ltb j i) refl
    where
      by_test : (b : Bool) → ltb j i ≡ b → i ≤ j
      by_test true less =
          let short : j < i = grind (arith, nat_tests, less) in
          let before = low.0 j no_entry (omega arith) short in
          let past = high.1 j no_entry (omega arith) (omega (arith, short, within)) in
          absurd (let a : (entry es j).begin < span.begin = grind (arith, nat_tests, before) in let b : span.end ≤ (entry es j).begin = grind (arith, nat_tests, past) in omega (arith, a, b, forward))
      by_test false more = grind (arith, nat_tests, more)

  pub fails-before : (o : ℕ) → o < i → is_in span (entry es o) ≡ false
  fails-before o short =
      let before = low.0 o no_entry (omega arith) short in
      grind (arith, nat_tests, before)

  pub fails-past : (o : ℕ) → j ≤ o → o < length es → is_in span (entry es o) ≡ false
  fails-past o far short =
      let past = high.1 o no_entry far short in
      let a : span.end ≤ (entry es o).begin = grind (arith, nat_tests, past) in
      let b = ahead o short in
      let c : span.end < (entry es o).end = omega (arith, a, b) in
      grind (arith, nat_tests, c)
