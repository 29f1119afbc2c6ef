-- A tail, and those that are longer by one entry.
use Rattle.std.proofs.Common.{◌≡◌, refl, sym, ap, ◌∙◌, subst, ℕ, suc, ◌+◌, ◌-◌, ◌<◌, ◌≤◌, Bool, true, false, ◌&&◌, eqb, List, [], ◌∷◌, ◌++◌, map, length, arith}
use Rattle.std.specs.Prelude.{◌≢◌, ℤ, pos, ◌+ℤ◌, ◌-ℤ◌, count_by, nat_le, reverse, slice_index_or}
use Rattle.std.specs.List.{All, sum_by}
use Rattle.std.proofs.lemmas.Bool.Decides.{nat_tests}
use Rattle.std.proofs.lemmas.Int.{ints}
use Rattle.std.proofs.lemmas.List.{length-append}
use Rattle.std.proofs.lemmas.List.Sums.{sum_by-cons}
use Rattle.mz_base.specs.Data.{DataLists, connection}
use Rattle.mz_base.specs.declared.lattice.Entry.{Entry}
use Rattle.mz_base.specs.declared.lattice.Lattice.{Lattice}
use Rattle.mz_base.specs.declared.lattice.Span.{Span}
use Rattle.mz_base.specs.declared.lattice.TheConstants.{MOST_KEY}
use Rattle.conversion_meaning.specs.Lattices.{AreInEndOrder, IsByEnd, IsWellFormed, entry}
use Rattle.conversion_meaning.specs.Paths.{IsPathOver, IsSpan}
use Rattle.conversion_meaning.specs.Potentials.{is_in}
use Rattle.conversion_meaning.proofs.BestLemmas.{AreForward-from_well}
use Rattle.conversion_meaning.proofs.Duality.{AreForward}
use Rattle.conversion_meaning.proofs.InOrderLemmas.{Among-from_contains, Rises-from_pairs}
use Rattle.conversion_meaning.proofs.Lists.{All-from_among, Among, Rises, from_filter, from_map, place_of}
use Rattle.viterbi.specs.Back.{IsWayBack}
use Rattle.viterbi.proofs.BackLemmas.{IsWayBack-forward, IsWayBack-reverse}
use Rattle.nbest.specs.Searches.{AreCosts, IsEstimate, IsJoin, IsPart, IsTail, begin_of, ends_so, is_front, lid_of, longer_tails, ordinals_to, rest_of, with_entry}
use Rattle.nbest.specs.Tails.{Ending}
use Rattle.nbest.specs.Weights.{weight_from, weight_of}
use Rattle.nbest.specs.declared.join.Join.{Join}
use Rattle.nbest.proofs.CountLemmas.{count_none, count_one, tally}
use Rattle.nbest.proofs.TailLemmas.{IsEstimate-from_least, begin_of-push, both, front-shorter, front_rest, is_front-push, lid_of-push, rest_of-push, way-join, way-split}

-- ---- The order of ends has each ordinal once

pub Rises-by_end : (es : List Entry) (by_end : List ℕ) → IsByEnd es by_end → Rises (λ a b. a ≢ b) by_end
Rises-by_end es by_end is =
    differ by_end (Rises-from_pairs (AreInEndOrder es) by_end is.rising)
  where
    apart : (a b : ℕ) → AreInEndOrder es a b → a ≢ b
    apart a b order same =
        let less = order.ties (ap (λ o. (entry es o).end) same) in omega (arith, same, less)

    differ : (os : List ℕ) → Rises (AreInEndOrder es) os → Rises (λ a b. a ≢ b) os
    differ [] h = tt
    differ (o ∷ os) h = (λ x k. apart o x (h.0 x k), differ os h.1)

Among-ordinal : (es : List Entry) (by_end : List ℕ) (o : ℕ) → IsByEnd es by_end → Among o by_end → o < length es
Among-ordinal es by_end o is h =
    let r = place_of o by_end h in subst (λ x. x < length es) (r.2 0) (is.ordinals r.0 0 r.1)

module _ (d : DataLists) (l : Lattice) (span : Span) (well : IsWellFormed d l) (is : IsSpan d l span) where
  forward : AreForward l.entries
  forward = AreForward-from_well d l well

  -- ---- How many of the longer tails a path ends with

  abbrev ends_at : ℕ → ℕ → Bool
  ends_at here o =
      eqb (entry l.entries o).end here && nat_le span.begin (entry l.entries o).begin

  pub count_longer : (costs : List ℤ) (tail : List ℕ) (join : Join) (path : List ℕ) → join.begin ≡ begin_of l.entries span.end tail → begin_of l.entries span.end tail ≢ span.begin → IsPathOver l.entries span path → count_by (ends_so path) (longer_tails d l span costs tail join) ≡ tally (is_front tail (reverse path))
  count_longer costs tail join path begins lacks joined =
      by_test (is_front tail (reverse path)) refl
    where
      fails : is_front tail (reverse path) ≡ false → (o : ℕ) (b : Bool) → is_front (tail ++ o ∷ []) (reverse path) ≡ b → b ≡ false
      fails no_front o true h =
          absurd (let clash : true ≡ false = sym (front-shorter tail o (reverse path) h) ∙ no_front in cc)
      fails no_front o false h = refl

      next : (before : List ℕ) → reverse path ≡ tail ++ before → IsWayBack l.entries span.begin (begin_of l.entries span.end tail) before → count_by (ends_so path) (longer_tails d l span costs tail join) ≡ 1
      next [] same way = absurd (lacks (sym way))
      next (x ∷ before) same way =
          let low = IsWayBack-forward l.entries forward span.begin (entry l.entries x).begin before way.2 in
          let ends : (entry l.entries x).end ≡ join.begin = way.1 ∙ sym begins in
          let passes : ends_at join.begin x ≡ true = grind (arith, nat_tests, ends, low) in
          count_one (ends_so path) (with_entry d l.entries costs tail join) (ends_at join.begin) x l.by_end (λ o. ap (is_front (tail ++ o ∷ [])) same ∙ is_front-push tail o x before) passes (Rises-by_end l.entries l.by_end well.by_end) (Among-from_contains l.by_end x (well.by_end.each x way.0))

      by_test : (b : Bool) → is_front tail (reverse path) ≡ b → count_by (ends_so path) (longer_tails d l span costs tail join) ≡ tally b
      by_test false no_front =
          count_none (ends_so path) (with_entry d l.entries costs tail join) (ends_at join.begin) l.by_end (λ o h. fails no_front o (is_front (tail ++ o ∷ []) (reverse path)) refl)
      by_test true begun =
          let r = front_rest tail (reverse path) begun in
          let way = IsWayBack-reverse l.entries span.begin span.end path joined in
          next r.0 r.1 (way-split l.entries span.begin span.end tail r.0 (subst (λ w. IsWayBack l.entries span.begin span.end w) r.1 way)).1

  -- ---- They are tails

  from_ordinals_to : (o here : ℕ) → Among o (ordinals_to l.entries l.by_end span here) → (o < length l.entries) × ((entry l.entries o).end ≡ here) × (span.begin ≤ (entry l.entries o).begin)
  from_ordinals_to o here h =
      let r = from_filter (λ x. eqb (entry l.entries x).end here && nat_le span.begin (entry l.entries x).begin) o l.by_end h in
      let t = both (eqb (entry l.entries o).end here) (nat_le span.begin (entry l.entries o).begin) r.1 in
      (Among-ordinal l.entries l.by_end o well.by_end r.0, grind (arith, nat_tests, t.0), grind (arith, nat_tests, t.1))

  IsTail-with_entry : (costs : List ℤ) (tail : List ℕ) (join : Join) (o : ℕ) → AreCosts d l.entries span costs → IsPart l.entries span tail → IsJoin d l.entries span tail join → o < length l.entries → (entry l.entries o).end ≡ join.begin → span.begin ≤ (entry l.entries o).begin → IsTail d l.entries span (with_entry d l.entries costs tail join o)
  IsTail-with_entry costs tail join o are part joins inside ends low = record {
    some = (let n = length-append tail (o ∷ []) in omega (arith, n));
    part = record { way = subst (λ n. IsWayBack l.entries n span.end longer) (sym begins) way; low = subst (λ n. span.begin ≤ n) (sym begins) low };
    estimate = subst (λ c. IsEstimate d l.entries span longer c) sum (IsEstimate-from_least d l.entries span longer o cost begins lids (are.least o inside within));
  }
    where
      longer : List ℕ
      longer = tail ++ o ∷ []

      cost : ℤ
      cost = slice_index_or costs o (pos 0)

      begins : begin_of l.entries span.end (tail ++ o ∷ []) ≡ (entry l.entries o).begin
      begins = begin_of-push l.entries span.end tail o

      lids : lid_of l.entries span.right (tail ++ o ∷ []) ≡ (entry l.entries o).lid
      lids = lid_of-push l.entries span.right tail o

      there : (entry l.entries o).end ≡ begin_of l.entries span.end tail
      there = ends ∙ joins.begin_is

      way : IsWayBack l.entries (entry l.entries o).begin span.end (tail ++ o ∷ [])
      way =
          way-join l.entries (entry l.entries o).begin span.end tail (o ∷ []) part.way (inside, there, refl)

      within : is_in span (entry l.entries o) ≡ true
      within =
          let last = IsWayBack-forward l.entries forward (begin_of l.entries span.end tail) span.end tail part.way in
          let e = there in
          let high : (entry l.entries o).end ≤ span.end = omega (arith, e, last) in
          grind (arith, nat_tests, high, low)

      sum : ((slice_index_or costs o (pos 0) -ℤ (entry l.entries o).cost) +ℤ rest_of d l.entries span.right (tail ++ o ∷ [])) ≡ ((slice_index_or costs o (pos 0) +ℤ connection d (entry l.entries o).rid join.lid) +ℤ join.rest)
      sum =
          let e = rest_of-push d l.entries span.right tail o in
          let f = ap (connection d (entry l.entries o).rid) joins.lid_is in
          let r = joins.rest_is in
          omega (arith, ints, e, f, r)

  pub All-longer : (costs : List ℤ) (tail : List ℕ) (join : Join) → AreCosts d l.entries span costs → IsPart l.entries span tail → IsJoin d l.entries span tail join → All (IsTail d l.entries span) (longer_tails d l span costs tail join)
  All-longer costs tail join are part joins =
      All-from_among (IsTail d l.entries span) (longer_tails d l span costs tail join) (λ e h. (let r = from_map (with_entry d l.entries costs tail join) e (ordinals_to l.entries l.by_end span join.begin) h in let k = from_ordinals_to r.0 join.begin r.1 in subst (λ t. IsTail d l.entries span t) r.2 (IsTail-with_entry costs tail join r.0 are part joins k.0 k.1 k.2)))

  -- ---- They weigh less

  way-length : (from to : ℕ) (tail : List ℕ) → IsWayBack l.entries from to tail → from + length tail ≤ to
  way-length from to [] way = omega (arith, way)
  way-length from to (o ∷ tail) way =
      let ahead = forward o way.0 in
      let rest = way-length from (entry l.entries o).begin tail way.2 in
      omega (arith, ahead, rest, way.1)

  -- a tail has no more entries than a key has characters
  pub length-part : (tail : List ℕ) → IsPart l.entries span tail → length tail ≤ MOST_KEY
  length-part tail part =
      let long = way-length (begin_of l.entries span.end tail) span.end tail part.way in
      let inside = is.inside in
      let few = well.key.few in
      omega (arith, long, inside, few)

  weigh : (costs : List ℤ) (tail : List ℕ) (join : Join) (most : ℕ) (os : List ℕ) → MOST_KEY + 1 - length tail ≡ suc most → sum_by (weight_of l span) (map (with_entry d l.entries costs tail join) os) ≡ sum_by (λ o. weight_from most l.entries l.by_end span (entry l.entries o).begin) os
  weigh costs tail join most [] left_is = refl
  weigh costs tail join most (o ∷ os) left_is =
      let a = sum_by-cons (weight_of l span) (with_entry d l.entries costs tail join o) (map (with_entry d l.entries costs tail join) os) in
      let b = sum_by-cons (λ x. weight_from most l.entries l.by_end span (entry l.entries x).begin) o os in
      let rest = weigh costs tail join most os left_is in
      let n = length-append tail (o ∷ []) in
      let m : MOST_KEY + 1 - length (tail ++ o ∷ []) ≡ most = omega (arith, n, left_is) in
      let one : weight_of l span (with_entry d l.entries costs tail join o) ≡ weight_from most l.entries l.by_end span (entry l.entries o).begin = ap (λ k. weight_from k l.entries l.by_end span (begin_of l.entries span.end (tail ++ o ∷ []))) m ∙ ap (weight_from most l.entries l.by_end span) (begin_of-push l.entries span.end tail o) in
      omega (arith, a, b, rest, one)

  pub weight-longer : (costs : List ℤ) (e : Ending) (join : Join) → IsPart l.entries span e.ordinals → join.begin ≡ begin_of l.entries span.end e.ordinals → sum_by (weight_of l span) (longer_tails d l span costs e.ordinals join) < weight_of l span e
  weight-longer costs e join part begins =
      let long = way-length (begin_of l.entries span.end e.ordinals) span.end e.ordinals part.way in
      let inside = is.inside in
      let few = well.key.few in
      let most = MOST_KEY - length e.ordinals in
      let one : MOST_KEY + 1 - length e.ordinals ≡ suc most = omega (arith, long, inside, few) in
      let sums = weigh costs e.ordinals join most (ordinals_to l.entries l.by_end span join.begin) one in
      let here : weight_of l span e ≡ weight_from (suc most) l.entries l.by_end span (begin_of l.entries span.end e.ordinals) = ap (λ k. weight_from k l.entries l.by_end span (begin_of l.entries span.end e.ordinals)) one in
      let same : weight_from (suc most) l.entries l.by_end span join.begin ≡ weight_from (suc most) l.entries l.by_end span (begin_of l.entries span.end e.ordinals) = ap (weight_from (suc most) l.entries l.by_end span) begins in
      omega (arith, sums, here, same)
