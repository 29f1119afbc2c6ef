-- Arrivals are gathered one by one, and the cheapest is found one by one.
use Rattle.std.proofs.Common.{◌≡◌, refl, sym, ap, ◌∙◌, subst, ℕ, ◌+◌, ◌<◌, ◌≤◌, ◌⊎◌, inl, inr, List, [], ◌∷◌, ◌++◌, length, get_or, arith, length-append}
use Rattle.std.specs.Prelude.{ℤ, ◌<ℤ◌, ◌≤ℤ◌, slice_index}
use Rattle.std.proofs.Math.ListN.{get_or-append}
use Rattle.std.proofs.lemmas.Int.{ints}
use Rattle.std.proofs.lemmas.List.{get_or_push, get_or_read}
use Rattle.mz_base.specs.Data.{DataLists}
use Rattle.mz_base.specs.declared.lattice.Entry.{Entry}
use Rattle.mz_base.specs.declared.lattice.Span.{Span}
use Rattle.conversion_meaning.specs.Lattices.{IsByEnd, IsCursor, entry}
use Rattle.conversion_meaning.proofs.Duality.{AreForward}
use Rattle.viterbi.specs.declared.arrivals.Arrival.{Arrival}
use Rattle.viterbi.specs.declared.arrivals.Arrivals.{Arrivals}
use Rattle.viterbi.specs.declared.arrivals.Choice.{Choice}
use Rattle.viterbi.specs.declared.arrivals.Offer.{Offer}
use Rattle.viterbi.specs.declared.table.Reached.{Reached}
use Rattle.viterbi.specs.Arrivals.{IsArrival, AreAllArrivals, AreArrivals, AreRising, IsFirstLeast, IsLesser, IsUpTo, IsCheapest, arrival, no_arrival, choice_of, cost_at}
use Rattle.viterbi.specs.Table.{no_reached}

order : (a b : ℕ) → (a < b) ⊎ ((a ≡ b) ⊎ (b < a))
order a b = grind arith

pub last_or_before : (k n : ℕ) → k < n + 1 → (k < n) ⊎ (k ≡ n)
last_or_before k n h = grind arith

-- what holds of each element and of one more holds of each of the longer list
pub each_push : {X : Type 0} (P : X → Type 0) (d : X) (xs : List X) (y : X) → ((k : ℕ) → k < length xs → P (get_or xs k d)) → P y → (k : ℕ) → k < length (xs ++ y ∷ []) → P (get_or (xs ++ y ∷ []) k d)
each_push {X} P d xs y each last k inside = by_place (last_or_before k (length xs) (omega (arith, length-append xs (y ∷ []))))
  where
    by_place : (k < length xs) ⊎ (k ≡ length xs) → P (get_or (xs ++ y ∷ []) k d)
    by_place (inl low) = subst P (sym (get_or-append xs (y ∷ []) d k low)) (each k low)
    by_place (inr same) = subst P (sym (get_or_push xs y d k (sym same))) last

-- a higher ordinal goes on rising ones
AreRising-push : (xs : List Arrival) (x : Arrival) → AreRising xs → ((k : ℕ) → k < length xs → (arrival xs k).ordinal < x.ordinal) → AreRising (xs ++ x ∷ [])
AreRising-push xs x rising below i j less inside =
    by_place (last_or_before j (length xs) (omega (arith, inside, length-append xs (x ∷ []))))
  where
    kept : (k : ℕ) → k < length xs → (arrival (xs ++ x ∷ []) k).ordinal ≡ (arrival xs k).ordinal
    kept k low = ap (λ (y : Arrival). y.ordinal) (get_or-append xs (x ∷ []) no_arrival k low)

    by_place : (j < length xs) ⊎ (j ≡ length xs) → (arrival (xs ++ x ∷ []) i).ordinal < (arrival (xs ++ x ∷ []) j).ordinal
    by_place (inl low) =
        let e = kept i (omega (arith, less, low)) in
        let f = kept j low in
        let h = rising i j less low in
        omega (arith, e, f, h)
    by_place (inr same) =
        let e = kept i (omega (arith, less, same)) in
        let f = ap (λ (y : Arrival). y.ordinal) (get_or_push xs x no_arrival j (sym same)) in
        let h = below i (omega (arith, less, same)) in
        omega (arith, e, f, h)

-- the arrivals among the first so many of the order of ends
pub record Gathered (es : List Entry) (by_end : List ℕ) (span : Span) (table : List Reached) (to n : ℕ) (xs : List Arrival) : Type 0 where
  pub each : (k : ℕ) → k < length xs → IsArrival es span table to (arrival xs k)
  pub all : (m : ℕ) → m < n → (entry es (slice_index by_end m)).end ≡ to → span.begin ≤ (entry es (slice_index by_end m)).begin → (k : ℕ) × (k < length xs) × ((arrival xs k).ordinal ≡ slice_index by_end m)
  pub places : (k : ℕ) → k < length xs → (m : ℕ) × (m < n) × ((arrival xs k).ordinal ≡ slice_index by_end m)
  pub rising : AreRising xs

module _ (es : List Entry) (by_end : List ℕ) (span : Span) (table : List Reached) (to : ℕ) where
  pub Gathered-push : (n : ℕ) (xs : List Arrival) (x : Arrival) → IsByEnd es by_end → n < length by_end → Gathered es by_end span table to n xs → IsArrival es span table to x → x.ordinal ≡ slice_index by_end n → Gathered es by_end span table to (n + 1) (xs ++ x ∷ [])
  Gathered-push n xs x sorted inside before is same =
      record {
        each = each_push (IsArrival es span table to) no_arrival xs x before.each is;
        all = λ m low ends begins. at m ends begins (last_or_before m n low);
        places = each_push (λ (y : Arrival). (m : ℕ) × (m < n + 1) × (y.ordinal ≡ slice_index by_end m)) no_arrival xs x (λ k low. let r = before.places k low in (r.0, omega (arith, r.1), r.2)) (n, omega arith, same);
        rising = AreRising-push xs x before.rising below;
      }
    where
      -- both end at the position, so the later place has the higher ordinal
      below : (k : ℕ) → k < length xs → (arrival xs k).ordinal < x.ordinal
      below k low =
          let r = before.places k low in
          let e = r.2 in
          let first : (entry es (slice_index by_end r.0)).end ≡ to = subst (λ o. (entry es o).end ≡ to) e (before.each k low).ends in
          let second : (entry es (slice_index by_end n)).end ≡ to = subst (λ o. (entry es o).end ≡ to) same is.ends in
          let h = (sorted.rising r.0 n 0 r.1 inside).ties (first ∙ sym second) in
          omega (arith, e, h, same)

      at : (m : ℕ) → (entry es (slice_index by_end m)).end ≡ to → span.begin ≤ (entry es (slice_index by_end m)).begin → (m < n) ⊎ (m ≡ n) → (k : ℕ) × (k < length (xs ++ x ∷ [])) × ((arrival (xs ++ x ∷ []) k).ordinal ≡ slice_index by_end m)
      at m ends begins (inl low) =
          let r = before.all m low ends begins in
          let e = ap (λ (y : Arrival). y.ordinal) (get_or-append xs (x ∷ []) no_arrival r.0 r.1) in
          (r.0, omega (arith, r.1, length-append xs (x ∷ [])), e ∙ r.2)
      at m ends begins (inr last) =
          let e = ap (λ (y : Arrival). y.ordinal) (get_or_push xs x no_arrival (length xs) refl) in
          (length xs, omega (arith, length-append xs (x ∷ [])), e ∙ (same ∙ ap (slice_index by_end) (sym last)))

  pub Gathered-skip : (n : ℕ) (xs : List Arrival) → Gathered es by_end span table to n xs → ((entry es (slice_index by_end n)).end ≡ to → span.begin ≤ (entry es (slice_index by_end n)).begin → ⊥) → Gathered es by_end span table to (n + 1) xs
  Gathered-skip n xs before none =
      record { each = before.each; all = λ m low ends begins. at m ends begins (last_or_before m n low); places = λ k low. (let r = before.places k low in (r.0, omega (arith, r.1), r.2)); rising = before.rising }
    where
      at : (m : ℕ) → (entry es (slice_index by_end m)).end ≡ to → span.begin ≤ (entry es (slice_index by_end m)).begin → (m < n) ⊎ (m ≡ n) → (k : ℕ) × (k < length xs) × ((arrival xs k).ordinal ≡ slice_index by_end m)
      at m ends begins (inl low) = before.all m low ends begins
      at m ends begins (inr last) =
          absurd (none (subst (λ i. (entry es (slice_index by_end i)).end ≡ to) last ends) (subst (λ i. span.begin ≤ (entry es (slice_index by_end i)).begin) last begins))

  -- the entries from a cursor to a place end at the position, and those of the span are gathered
  pub record IsGatheredFrom (cursor n : ℕ) (xs : List Arrival) : Type 0 where
    pub at : cursor ≤ n
    pub within : n ≤ length by_end
    pub gathered : Gathered es by_end span table to n xs
    pub ends : (k : ℕ) → cursor ≤ k → k < n → (entry es (slice_index by_end k)).end ≡ to

  -- before the cursor nothing ends at the position
  pub IsGatheredFrom-none : (cursor : ℕ) → IsCursor es by_end to cursor → IsGatheredFrom cursor cursor []
  IsGatheredFrom-none cursor at =
      record {
        at = omega arith;
        within = at.within;
        gathered = record { each = λ k low. absurd (omega (arith, low)); all = λ m low ends begins. absurd (let less = at.before m low in omega (arith, less, ends)); places = λ k low. absurd (omega (arith, low)); rising = λ i j less inside. absurd (omega (arith, inside)) };
        ends = λ k high low. absurd (omega (arith, high, low));
      }

  -- one more that ends at the position
  pub IsGatheredFrom-next : (cursor n : ℕ) (xs ys : List Arrival) → IsGatheredFrom cursor n xs → n < length by_end → (entry es (slice_index by_end n)).end ≡ to → Gathered es by_end span table to (n + 1) ys → IsGatheredFrom cursor (n + 1) ys
  IsGatheredFrom-next cursor n xs ys before inside here gathered =
      record { at = (let at = before.at in omega (arith, at)); within = omega (arith, inside); gathered = gathered; ends = λ k high low. ends k high (last_or_before k n low) }
    where
      ends : (k : ℕ) → cursor ≤ k → (k < n) ⊎ (k ≡ n) → (entry es (slice_index by_end k)).end ≡ to
      ends k high (inl low) = before.ends k high low
      ends k high (inr last) =
          subst (λ i. (entry es (slice_index by_end i)).end ≡ to) (sym last) here

  -- where no entry is left that ends at the position, all are gathered
  pub AreArrivals-from_gathered : (n : ℕ) (xs : List Arrival) → IsByEnd es by_end → (length by_end ≤ n) ⊎ (to < (entry es (slice_index by_end n)).end) → Gathered es by_end span table to n xs → AreArrivals es span table to xs
  AreArrivals-from_gathered n xs is past before =
      record { each = before.each; all = at; rising = before.rising }
    where
      low_of : (m : ℕ) → m < length by_end → (entry es (slice_index by_end m)).end ≡ to → (length by_end ≤ n) ⊎ (to < (entry es (slice_index by_end n)).end) → (m < n) ⊎ ((m ≡ n) ⊎ (n < m)) → m < n
      low_of m inside ends p (inl low) = low
      low_of m inside ends (inl none) (inr q) = omega arith
      low_of m inside ends (inr more) (inr (inl same)) =
          let e = ap (λ i. (entry es (slice_index by_end i)).end) same in
          absurd (omega (arith, e, ends, more))
      low_of m inside ends (inr more) (inr (inr later)) =
          let e = (is.rising n m 0 later inside).ends in
          absurd (omega (arith, e, ends, more))

      at : (o : ℕ) → o < length es → (entry es o).end ≡ to → span.begin ≤ (entry es o).begin → (k : ℕ) × (k < length xs) × ((arrival xs k).ordinal ≡ o)
      at o inside ends begins =
          let r = is.each o inside in
          let read : slice_index by_end r.0 ≡ o = sym (get_or_read by_end r.0 o r.1 (sym r.2) 0) in
          let there = subst (λ i. (entry es i).end ≡ to) (sym read) ends in
          let q = before.all r.0 (low_of r.0 r.1 there past (order r.0 n)) there (subst (λ i. span.begin ≤ (entry es i).begin) (sym read) begins) in
          (q.0, q.1, q.2 ∙ read)

  -- and they are all arrivals, where no entry is left that ends at the position
  pub AreAllArrivals-from_gathered : (cursor n : ℕ) (x : Arrivals) → IsByEnd es by_end → IsCursor es by_end to cursor → (length by_end ≤ n) ⊎ (to < (entry es (slice_index by_end n)).end) → IsGatheredFrom cursor n x.list.items → x.to ≡ to → x.past ≡ n → AreAllArrivals es by_end span table x
  AreAllArrivals-from_gathered cursor n x is at past from to_is past_is =
      record {
        are = subst (λ t. AreArrivals es span table t x.list.items) (sym to_is) (AreArrivals-from_gathered n x.list.items is past from.gathered);
        within = (let within = from.within in omega (arith, within, past_is));
        before = λ k low. end_before k (omega (arith, low, past_is)) (order k cursor);
      }
    where
      end_before : (k : ℕ) → k < n → (k < cursor) ⊎ ((k ≡ cursor) ⊎ (cursor < k)) → (entry es (slice_index by_end k)).end < x.to + 1
      end_before k low (inl less) =
          let e = at.before k less in omega (arith, e, to_is)
      end_before k low (inr (inl same)) =
          let e = from.ends k (omega (arith, same)) low in omega (arith, e, to_is)
      end_before k low (inr (inr more)) =
          let e = from.ends k (omega (arith, more)) low in omega (arith, e, to_is)

-- at the begin of a span none of its entries ends
pub AreAllArrivals-begin : (es : List Entry) (by_end : List ℕ) (span : Span) (table : List Reached) (x : Arrivals) → AreForward es → x.to ≡ span.begin → IsCursor es by_end (span.begin + 1) x.past → x.list.items ≡ [] → AreAllArrivals es by_end span table x
AreAllArrivals-begin es by_end span table x forward to past none = record {
  are = subst (λ xs. AreArrivals es span table x.to xs) (sym none) (record { each = λ k low. absurd (omega (arith, low)); all = λ o inside ends begins. absurd (let f = forward o inside in omega (arith, f, ends, to, begins)); rising = λ i j less inside. absurd (omega (arith, inside)) });
  within = past.within;
  before = λ k low. (let less = past.before k low in omega (arith, less, to));
}

-- a row more changes none
pub AreAllArrivals-push : (es : List Entry) (by_end : List ℕ) (span : Span) (table : List Reached) (r : Reached) (x : Arrivals) → AreAllArrivals es by_end span table x → AreAllArrivals es by_end span (table ++ r ∷ []) x
AreAllArrivals-push es by_end span table r x all =
    record { are = record { each = each; all = all.are.all; rising = all.are.rising }; within = all.within; before = all.before }
  where
    each : (k : ℕ) → k < length x.list.items → IsArrival es span (table ++ r ∷ []) x.to (arrival x.list.items k)
    each k low =
        let at = all.are.each k low in
        let same = ap (λ (y : Reached). y.cost) (get_or-append table (r ∷ []) no_reached (arrival x.list.items k).ordinal at.inside) in
        record { inside = (let inside = at.inside in omega (arith, inside, length-append table (r ∷ []))); ends = at.ends; begins = at.begins; cost_is = at.cost_is ∙ sym same; rid_is = at.rid_is }

-- ---- The choice among them

order_z : (a b : ℤ) → a ≤ℤ b → (a <ℤ b) ⊎ (a ≡ b)
order_z a b h = grind (arith, ints)

module _ (d : DataLists) (xs : List Arrival) (lid : ℕ) where
  -- the first is the least of one
  pub IsFirstLeast-one : (offer : Offer) → 0 < length xs → offer.place ≡ 0 → offer.cost ≡ cost_at d xs lid 0 → IsFirstLeast d xs lid 1 offer
  IsFirstLeast-one offer some place_is is = record {
    inside = omega (arith, some, place_is);
    cost_is = is ∙ ap (cost_at d xs lid) (sym place_is);
    none_less = λ k low. (let e : offer.cost ≡ cost_at d xs lid k = is ∙ ap (cost_at d xs lid) (omega (arith, low)) in omega (arith, ints, e));
    none_before = λ k low. absurd (omega (arith, low, place_is));
  }

  -- and of one more, the lesser of the two
  pub IsFirstLeast-more : (n : ℕ) (best other offer : Offer) → IsFirstLeast d xs lid n best → n < length xs → other.place ≡ n → other.cost ≡ cost_at d xs lid n → IsLesser best other offer → IsFirstLeast d xs lid (n + 1) offer
  IsFirstLeast-more n best other offer before low place_is is (inl r) =
      subst (λ x. IsFirstLeast d xs lid (n + 1) x) (sym r.1) (record { inside = omega (arith, low, place_is); cost_is = is ∙ ap (cost_at d xs lid) (sym place_is); none_less = λ k under. at k (last_or_before k n under); none_before = λ k under. less k (omega (arith, under, place_is)) })
    where
      less : (k : ℕ) → k < n → other.cost <ℤ cost_at d xs lid k
      less k under =
          let h = before.none_less k under in
          let l = r.0 in
          omega (arith, ints, h, l)

      at : (k : ℕ) → (k < n) ⊎ (k ≡ n) → other.cost ≤ℤ cost_at d xs lid k
      at k (inl under) = let h = less k under in omega (arith, ints, h)
      at k (inr last) =
          let e : other.cost ≡ cost_at d xs lid k = is ∙ ap (cost_at d xs lid) (sym last) in
          omega (arith, ints, e)
  IsFirstLeast-more n best other offer before low place_is is (inr r) =
      subst (λ x. IsFirstLeast d xs lid (n + 1) x) (sym r.1) (record { inside = before.inside; cost_is = before.cost_is; none_less = λ k under. at k (last_or_before k n under); none_before = before.none_before })
    where
      at : (k : ℕ) → (k < n) ⊎ (k ≡ n) → best.cost ≤ℤ cost_at d xs lid k
      at k (inl under) = before.none_less k under
      at k (inr last) =
          let e : other.cost ≡ cost_at d xs lid k = is ∙ ap (cost_at d xs lid) (sym last) in
          let h = r.0 in
          omega (arith, ints, e, h)

  -- the first of the least costs has the least ordinal of them
  pub IsCheapest-from_first : (offer : Offer) (choice : Choice) → AreRising xs → IsFirstLeast d xs lid (length xs) offer → choice.cost ≡ offer.cost → choice.ordinal ≡ (arrival xs offer.place).ordinal → IsCheapest d xs lid choice
  IsCheapest-from_first offer choice rising is cost_is ordinal_is =
      subst (λ c. IsCheapest d xs lid c) (sym same) (record { place = offer.place; inside = is.inside; choice_is = refl; least = λ k low. up_to k low (order k offer.place) })
    where
      by_parts : (c : ℤ) (o : ℕ) → choice.cost ≡ c → choice.ordinal ≡ o → choice ≡ record { cost = c; ordinal = o }
      by_parts c o first second =
          ap (λ x. record { cost = x; ordinal = choice.ordinal }) first ∙ ap (λ x. record { cost = c; ordinal = x }) second

      same : choice ≡ choice_of d lid (arrival xs offer.place)
      same =
          by_parts (cost_at d xs lid offer.place) (arrival xs offer.place).ordinal (cost_is ∙ is.cost_is) ordinal_is

      later : (k : ℕ) → k < length xs → offer.place < k → (cost_at d xs lid offer.place <ℤ cost_at d xs lid k) ⊎ (cost_at d xs lid offer.place ≡ cost_at d xs lid k) → IsUpTo (choice_of d lid (arrival xs offer.place)) (choice_of d lid (arrival xs k))
      later k low more (inl less) = inl less
      later k low more (inr tie) =
          let h = rising offer.place k more low in inr (tie, omega (arith, h))

      up_to : (k : ℕ) → k < length xs → (k < offer.place) ⊎ ((k ≡ offer.place) ⊎ (offer.place < k)) → IsUpTo (choice_of d lid (arrival xs offer.place)) (choice_of d lid (arrival xs k))
      up_to k low (inl earlier) =
          inl (subst (λ c. c <ℤ cost_at d xs lid k) is.cost_is (is.none_before k earlier))
      up_to k low (inr (inl here)) =
          let e = ap (λ i. (arrival xs i).ordinal) here in
          inr (ap (cost_at d xs lid) (sym here), omega (arith, e))
      up_to k low (inr (inr more)) =
          later k low more (order_z (cost_at d xs lid offer.place) (cost_at d xs lid k) (subst (λ c. c ≤ℤ cost_at d xs lid k) is.cost_is (is.none_less k low)))
