-- The first entry of a tail, and what is known of it.
use Rattle.std.proofs.Common.{◌≡◌, refl, sym, ap, ◌∙◌, subst, ℕ, zero, suc, ◌-◌, ◌*◌, ◌<◌, ◌≤◌, true, false, not, eqb, List, [], ◌∷◌, length, get_or, arith}
use Rattle.std.specs.Prelude.{◌≢◌, ℤ, pos, ◌+ℤ◌, ◌-ℤ◌, slice_index_or}
use Rattle.std.specs.List.{All}
use Rattle.std.proofs.lemmas.Bool.Decides.{nat_tests}
use Rattle.std.proofs.lemmas.Int.{ints}
use Rattle.mz_base.specs.Data.{AreDataSound, DataLists}
use Rattle.mz_base.specs.declared.lattice.Entry.{Entry}
use Rattle.mz_base.specs.declared.lattice.Lattice.{Lattice}
use Rattle.mz_base.specs.declared.lattice.Span.{Span}
use Rattle.conversion_meaning.specs.Bounds.{IsWithin}
use Rattle.conversion_meaning.specs.Lattices.{IsWellFormed, entry, no_entry}
use Rattle.conversion_meaning.specs.Paths.{IsSpan}
use Rattle.conversion_meaning.specs.Potentials.{is_in}
use Rattle.conversion_meaning.proofs.BestLemmas.{AreForward-from_well}
use Rattle.conversion_meaning.proofs.Duality.{AreForward}
use Rattle.viterbi.specs.Back.{IsWayBack}
use Rattle.viterbi.specs.Table.{most_reached}
use Rattle.viterbi.proofs.BackLemmas.{IsWayBack-forward}
use Rattle.nbest.specs.Searches.{AreCosts, AreThere, IsJoin, IsTail, begin_of, first_of, is_open, lacks_entries, lid_of, rest_of}
use Rattle.nbest.specs.Tails.{Ending, IsFirstOf, no_ending}
use Rattle.nbest.specs.declared.join.Join.{Join}
use Rattle.nbest.proofs.TailLemmas.{IsEstimate-from_least, IsEstimate-one, IsWithin-rest_of}

first_of-cons : (o x : ℕ) (tail : List ℕ) → first_of (o ∷ (x ∷ tail)) ≡ first_of (x ∷ tail)
first_of-cons o x tail =
    let e : length (o ∷ (x ∷ tail)) - 1 ≡ suc (length (x ∷ tail) - 1) = omega arith in
    ap (λ i. get_or (o ∷ (x ∷ tail)) i 0) e

pub begin_of-first : (es : List Entry) (to : ℕ) (tail : List ℕ) → 0 < length tail → begin_of es to tail ≡ (entry es (first_of tail)).begin
begin_of-first es to [] some = absurd (omega (arith, some))
begin_of-first es to (o ∷ []) some = refl
begin_of-first es to (o ∷ (x ∷ tail)) some =
    begin_of-first es (entry es o).begin (x ∷ tail) (omega arith) ∙ ap (λ i. (entry es i).begin) (sym (first_of-cons o x tail))

pub lid_of-first : (es : List Entry) (right : ℕ) (tail : List ℕ) → 0 < length tail → lid_of es right tail ≡ (entry es (first_of tail)).lid
lid_of-first es right [] some = absurd (omega (arith, some))
lid_of-first es right (o ∷ []) some = refl
lid_of-first es right (o ∷ (x ∷ tail)) some =
    lid_of-first es (entry es o).lid (x ∷ tail) (omega arith) ∙ ap (λ i. (entry es i).lid) (sym (first_of-cons o x tail))

inside_way : (es : List Entry) (from to : ℕ) (tail : List ℕ) → IsWayBack es from to tail → All (λ o. o < length es) tail
inside_way es from to [] way k d low = absurd (omega (arith, low))
inside_way es from to (o ∷ tail) way zero d low = way.0
inside_way es from to (o ∷ tail) way (suc k) d low =
    inside_way es from (entry es o).begin tail way.2 k d (omega (arith, low))

first_inside : (es : List Entry) (ordinals : List ℕ) → AreThere es ordinals → first_of ordinals < length es
first_inside es ordinals there =
    let some = there.some in there.inside (length ordinals - 1) 0 (omega (arith, some))

-- it ends no later than the tail
end_of-first : (es : List Entry) → AreForward es → (from to : ℕ) (tail : List ℕ) → 0 < length tail → IsWayBack es from to tail → (entry es (first_of tail)).end ≤ to
end_of-first es forward from to [] some way = absurd (omega (arith, some))
end_of-first es forward from to (o ∷ []) some way = omega (arith, way.1)
end_of-first es forward from to (o ∷ (x ∷ tail)) some way =
    let rest = end_of-first es forward from (entry es o).begin (x ∷ tail) (omega arith) way.2 in
    let ahead = forward o way.0 in
    let e : (entry es (first_of (o ∷ (x ∷ tail)))).end ≡ (entry es (first_of (x ∷ tail))).end = ap (λ i. (entry es i).end) (first_of-cons o x tail) in
    omega (arith, rest, ahead, e, way.1)

-- ---- Whether the first tail lacks entries

pub is_open-first : (es : List Entry) (span : Span) (queue : List Ending) (e : Ending) → IsFirstOf queue e → is_open es span queue ≡ lacks_entries es span e
is_open-first es span [] e first =
    let low = first.some in absurd (omega (arith, low))
is_open-first es span (x ∷ queue) e first = ap (lacks_entries es span) first.stands

pub is_open-none : (es : List Entry) (span : Span) (queue : List Ending) → queue ≡ [] → is_open es span queue ≡ false
is_open-none es span queue none = ap (is_open es span) none

lacking : (a b : ℕ) → not (eqb a b) ≡ true → a ≢ b
lacking a b h same =
    let e : eqb a b ≡ true = grind (arith, nat_tests) in
    let clash : false ≡ true = ap not (sym e) ∙ h in
    cc

not_lacking : (a b : ℕ) → not (eqb a b) ≡ false → a ≡ b
not_lacking a b h = grind (arith, nat_tests)

pub open_first : (es : List Entry) (span : Span) (queue : List Ending) → is_open es span queue ≡ true → (0 < length queue) × (begin_of es span.end (get_or queue 0 no_ending).ordinals ≢ span.begin)
open_first es span [] h = absurd (let clash : false ≡ true = h in cc)
open_first es span (e ∷ queue) h =
    (omega arith, lacking (begin_of es span.end e.ordinals) span.begin h)

pub whole_first : (es : List Entry) (span : Span) (e : Ending) → lacks_entries es span e ≡ false → begin_of es span.end e.ordinals ≡ span.begin
whole_first es span e h = not_lacking (begin_of es span.end e.ordinals) span.begin h

module _ (d : DataLists) (l : Lattice) (span : Span) (well : IsWellFormed d l) (is : IsSpan d l span) (e : Ending) (tail : IsTail d l.entries span e) where
  pub AreThere-tail : AreThere l.entries e.ordinals
  AreThere-tail =
      record { some = tail.some; inside = inside_way l.entries (begin_of l.entries span.end e.ordinals) span.end e.ordinals tail.part.way }

  forward : AreForward l.entries
  forward = AreForward-from_well d l well

  pub inside : first_of e.ordinals < length l.entries
  inside = first_inside l.entries e.ordinals AreThere-tail

  within : is_in span (entry l.entries (first_of e.ordinals)) ≡ true
  within =
      let begins = begin_of-first l.entries span.end e.ordinals tail.some in
      let low = tail.part.low in
      let high = end_of-first l.entries forward (begin_of l.entries span.end e.ordinals) span.end e.ordinals tail.some tail.part.way in
      let from : span.begin ≤ (entry l.entries (first_of e.ordinals)).begin = omega (arith, begins, low) in
      grind (arith, nat_tests, high, from)

  module _ (costs : List ℤ) (are : AreCosts d l.entries span costs) where
    cost : ℤ
    cost = slice_index_or costs (first_of e.ordinals) (pos 0)

    -- the estimate goes by the least cost of the first entry
    pub estimate_is : e.estimate ≡ ((slice_index_or costs (first_of e.ordinals) (pos 0) -ℤ (entry l.entries (first_of e.ordinals)).cost) +ℤ rest_of d l.entries span.right e.ordinals)
    estimate_is =
        IsEstimate-one d l.entries span e.ordinals e.estimate _ tail.estimate (IsEstimate-from_least d l.entries span e.ordinals (first_of e.ordinals) (slice_index_or costs (first_of e.ordinals) (pos 0)) (begin_of-first l.entries span.end e.ordinals tail.some) (lid_of-first l.entries span.right e.ordinals tail.some) (are.least (first_of e.ordinals) inside within))

    pub small : IsWithin most_reached (slice_index_or costs (first_of e.ordinals) (pos 0))
    small = are.small (first_of e.ordinals) (subst (λ n. first_of e.ordinals < n) (sym are.count) inside)

    module _ (sound : AreDataSound d) where
      rest_within : IsWithin most_reached (rest_of d l.entries span.right e.ordinals)
      rest_within =
          let low = tail.part.low in
          let there = IsWayBack-forward l.entries forward (begin_of l.entries span.end e.ordinals) span.end e.ordinals tail.part.way in
          let n = span.end - begin_of l.entries span.end e.ordinals in
          let h = IsWithin-rest_of d sound l.key l.bounds l.entries well.entries forward span.right n (begin_of l.entries span.end e.ordinals) span.end e.ordinals is.right tail.part.way (omega (arith, there)) in
          let above = h.above in
          let below = h.below in
          let last = is.inside in
          let few = well.key.few in
          record { above = omega (arith, ints, above, last, few); below = omega (arith, ints, below, last, few) }

      pub estimate_within : IsWithin (3 * most_reached) e.estimate
      estimate_within =
          let s = small in
          let sa = s.above in
          let sb = s.below in
          let r = rest_within in
          let ra = r.above in
          let rb = r.below in
          let c = (well.entries (first_of e.ordinals) no_entry inside).cost in
          let ca = c.above in
          let cb = c.below in
          let is_sum = estimate_is in
          record { above = omega (arith, ints, sa, ra, cb, is_sum); below = omega (arith, ints, sb, rb, ca, is_sum) }

      -- the join of a tail
      pub IsJoin-first : (join : Join) → join.begin ≡ (entry l.entries (first_of e.ordinals)).begin → join.lid ≡ (entry l.entries (first_of e.ordinals)).lid → join.rest ≡ ((e.estimate -ℤ slice_index_or costs (first_of e.ordinals) (pos 0)) +ℤ (entry l.entries (first_of e.ordinals)).cost) → IsJoin d l.entries span e.ordinals join × IsWithin most_reached join.rest × (join.lid < d.ids)
      IsJoin-first join begins lids rests =
          let rest_is : join.rest ≡ rest_of d l.entries span.right e.ordinals = (let s = estimate_is in omega (arith, ints, rests, s)) in
          (record { begin_is = begins ∙ sym (begin_of-first l.entries span.end e.ordinals tail.some); lid_is = lids ∙ sym (lid_of-first l.entries span.right e.ordinals tail.some); rest_is = rest_is }, subst (λ r. IsWithin most_reached r) (sym rest_is) rest_within, subst (λ i. i < d.ids) (sym lids) (well.entries (first_of e.ordinals) no_entry inside).left)
