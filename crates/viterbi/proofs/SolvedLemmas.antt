-- What a whole table says: the best path, its cost, and the least costs.
use Rattle.std.proofs.Common.{◌≡◌, refl, sym, ap, ◌∙◌, subst, ℕ, zero, suc, ◌+◌, ◌-◌, ◌<◌, ◌≤◌, ◌⊎◌, inl, inr, Bool, true, false, cond, List, [], ◌∷◌, ◌++◌, Option, Some, None, length, map, arith, append_assoc, append-nil}
use Rattle.std.specs.Prelude.{ℤ, pos, IfSome, reverse, slice_index, slice_index_or}
use Rattle.std.specs.List.{filter, range_with_len}
use Rattle.std.proofs.lemmas.Bool.Decides.{nat_tests}
use Rattle.std.proofs.lemmas.Int.{ints}
use Rattle.std.proofs.lemmas.List.{get_or-map, length-map}
use Rattle.mz_base.specs.Data.{DataLists, AreDataSound}
use Rattle.mz_base.specs.declared.lattice.Entry.{Entry}
use Rattle.mz_base.specs.declared.lattice.Lattice.{Lattice}
use Rattle.mz_base.specs.declared.lattice.Span.{Span}
use Rattle.conversion_meaning.specs.Best.{IsBest}
use Rattle.conversion_meaning.specs.Bounds.{IsWithin, most_path}
use Rattle.conversion_meaning.specs.Certificates.{IsCertificate}
use Rattle.conversion_meaning.specs.Lattices.{IsWellFormed, entry}
use Rattle.conversion_meaning.specs.Paths.{IsSpan, path_cost}
use Rattle.conversion_meaning.specs.Potentials.{IsLeastCost, AreLeastCosts, is_in, ordinals_in}
use Rattle.conversion_meaning.proofs.CostBounds.{IsWithin-path_cost}
use Rattle.conversion_meaning.proofs.Duality.{AreForward}
use Rattle.conversion_meaning.proofs.LeastCosts.{IsCertificate-from_least}
use Rattle.conversion_meaning.proofs.Lists.{Among-get_or, from_filter, from_range}
use Rattle.lattice.specs.Begins.{IsBegin}
use Rattle.viterbi.specs.declared.table.Reached.{Reached}
use Rattle.viterbi.specs.Table.{IsReached, IsTrail, IsWholeTable, most_reached, no_reached, reached}
use Rattle.viterbi.proofs.BackLemmas.{IsBest-from_first, IsLeastCost-from_first, cost_between-reverse}
use Rattle.viterbi.proofs.TableLemmas.{IsTrail-one, begins_in_order, in_table, order}

-- the costs of a range that begins with a number that passes
pub costs_kept : (p : ℕ → Bool) (f : ℕ → ℤ) (i n : ℕ) (out whole : List ℤ) → i < n → p i ≡ true → out ++ map f (filter p (range_with_len i (n - i))) ≡ whole → (out ++ f i ∷ []) ++ map f (filter p (range_with_len (i + 1) (n - (i + 1)))) ≡ whole
costs_kept p f i n out whole low passes h =
    append_assoc out (f i ∷ []) (map f (filter p (range_with_len (i + 1) (n - (i + 1))))) ∙ (ap (λ r. out ++ r) (sym step) ∙ h)
  where
    one_more : n - i ≡ suc (n - (i + 1))
    one_more = omega (arith, low)

    kept : filter p (range_with_len i (suc (n - (i + 1)))) ≡ i ∷ filter p (range_with_len (i + 1) (n - (i + 1)))
    kept = rw passes refl

    step : map f (filter p (range_with_len i (n - i))) ≡ f i ∷ map f (filter p (range_with_len (i + 1) (n - (i + 1))))
    step = ap (λ m. map f (filter p (range_with_len i m))) one_more ∙ ap (map f) kept

-- and with one that does not
pub costs_skipped : (p : ℕ → Bool) (f : ℕ → ℤ) (i n : ℕ) (out whole : List ℤ) → i < n → p i ≡ false → out ++ map f (filter p (range_with_len i (n - i))) ≡ whole → out ++ map f (filter p (range_with_len (i + 1) (n - (i + 1)))) ≡ whole
costs_skipped p f i n out whole low fails h =
    ap (λ r. out ++ r) (sym step) ∙ h
  where
    one_more : n - i ≡ suc (n - (i + 1))
    one_more = omega (arith, low)

    skipped : filter p (range_with_len i (suc (n - (i + 1)))) ≡ filter p (range_with_len (i + 1) (n - (i + 1)))
    skipped = rw fails refl

    step : map f (filter p (range_with_len i (n - i))) ≡ map f (filter p (range_with_len (i + 1) (n - (i + 1))))
    step = ap (λ m. map f (filter p (range_with_len i m))) one_more ∙ ap (map f) skipped

pub costs_all : (p : ℕ → Bool) (f : ℕ → ℤ) (i n : ℕ) (out whole : List ℤ) → n ≤ i → out ++ map f (filter p (range_with_len i (n - i))) ≡ whole → out ≡ whole
costs_all p f i n out whole past h =
    let none : n - i ≡ 0 = omega (arith, past) in
    let e = ap (λ m. out ++ map f (filter p (range_with_len i m))) none in
    sym (append-nil out) ∙ (sym e ∙ h)

-- of a range nothing passes but between two places
from_first : (p : ℕ → Bool) (a m k : ℕ) → ((o : ℕ) → a ≤ o → o < a + m → p o ≡ false) → filter p (range_with_len a (m + k)) ≡ filter p (range_with_len (a + m) k)
from_first p a zero k fails =
    let e : zero + k ≡ k = omega arith in
    let f : a ≡ a + zero = omega arith in
    ap (λ n. filter p (range_with_len a n)) e ∙ ap (λ b. filter p (range_with_len b k)) f
from_first p a (suc m) k fails =
    let e : suc m + k ≡ suc (m + k) = omega arith in
    let f : (a + 1) + m ≡ a + suc m = omega arith in
    let here : p a ≡ false = fails a (omega arith) (omega arith) in
    let skipped : filter p (range_with_len a (suc (m + k))) ≡ filter p (range_with_len (a + 1) (m + k)) = rw here refl in
    ap (λ n. filter p (range_with_len a n)) e ∙ (skipped ∙ (from_first p (a + 1) m k (λ o low high. fails o (omega (arith, low)) (omega (arith, high))) ∙ ap (λ b. filter p (range_with_len b k)) f))

none_passes : (p : ℕ → Bool) (a n : ℕ) → ((o : ℕ) → a ≤ o → o < a + n → p o ≡ false) → filter p (range_with_len a n) ≡ []
none_passes p a zero fails = refl
none_passes p a (suc n) fails =
    let here : p a ≡ false = fails a (omega arith) (omega arith) in
    rw here (none_passes p (a + 1) n (λ o low high. fails o (omega (arith, low)) (omega (arith, high))))

up_to_last : (p : ℕ → Bool) (a m k : ℕ) → ((o : ℕ) → a + m ≤ o → o < a + m + k → p o ≡ false) → filter p (range_with_len a (m + k)) ≡ filter p (range_with_len a m)
up_to_last p a zero k fails =
    let e : zero + k ≡ k = omega arith in
    ap (λ n. filter p (range_with_len a n)) e ∙ none_passes p a k (λ o low high. fails o (omega (arith, low)) (omega (arith, high)))
up_to_last p a (suc m) k fails =
    let e : suc m + k ≡ suc (m + k) = omega arith in
    let rest = up_to_last p (a + 1) m k (λ o low high. fails o (omega (arith, low)) (omega (arith, high))) in
    ap (λ n. filter p (range_with_len a n)) e ∙ ap (λ xs. cond (p a) (a ∷ xs) xs) rest

passing_between : (p : ℕ → Bool) (first past n : ℕ) → first ≤ past → past ≤ n → ((o : ℕ) → o < first → p o ≡ false) → ((o : ℕ) → past ≤ o → o < n → p o ≡ false) → filter p (range_with_len first (past - first)) ≡ filter p (range_with_len 0 n)
passing_between p first past n low high front back =
    let one : n ≡ first + ((past - first) + (n - past)) = omega (arith, low, high) in
    let start : 0 + first ≡ first = omega arith in
    let e = from_first p 0 first ((past - first) + (n - past)) (λ o more less. front o (omega (arith, less))) in
    let f = up_to_last p first (past - first) (n - past) (λ o more less. back o (omega (arith, more, low)) (omega (arith, less, low, high))) in
    sym (ap (λ m. filter p (range_with_len 0 m)) one ∙ (e ∙ (ap (λ b. filter p (range_with_len b ((past - first) + (n - past)))) start ∙ f)))

-- the ordinals of a span are among those from its first begin to the first behind it
pub ordinals_between : (es : List Entry) (span : Span) (first past : ℕ) → AreForward es → span.begin ≤ span.end → IsBegin es span.begin first → IsBegin es span.end past → filter (λ o. is_in span (entry es o)) (range_with_len first (past - first)) ≡ filter (λ o. is_in span (entry es o)) (range_with_len 0 (length es))
ordinals_between es span first past forward order at behind =
    passing_between (λ o. is_in span (entry es o)) first past (length es) (begins_in_order es span.begin span.end first past order at behind) behind.within before after
  where
    before : (o : ℕ) → o < first → is_in span (entry es o) ≡ false
    before o low = let less = at.before o low in grind (arith, nat_tests)

    after : (o : ℕ) → past ≤ o → o < length es → is_in span (entry es o) ≡ false
    after o high low =
        let more = behind.after o high low in
        let ahead = forward o low in
        let past_end : span.end < (entry es o).end = omega (arith, more, ahead) in
        grind (arith, nat_tests)

-- past the table nothing is reached
past_table : (table : List Reached) (o : ℕ) → length table ≤ o → reached table o ≡ no_reached
past_table [] o past = refl
past_table (r ∷ table) zero past = absurd (omega (arith, past))
past_table (r ∷ table) (suc o) past = past_table table o (omega (arith, past))

-- so where the costs of the table are small, each is
pub IsWithin-reached : (table : List Reached) → ((o : ℕ) → o < length table → IsWithin most_reached (reached table o).cost) → (o : ℕ) → IsWithin most_reached (reached table o).cost
IsWithin-reached table small o = by_order (order o (length table))
  where
    by_order : (o < length table) ⊎ (length table ≤ o) → IsWithin most_reached (reached table o).cost
    by_order (inl low) = small o low
    by_order (inr high) =
        subst (λ (r : Reached). IsWithin most_reached r.cost) (sym (past_table table o high)) (record { above = omega (arith, ints); below = omega (arith, ints) })

-- the last ordinal of a trail is in the table
pub IfSome-last : (table : List Reached) (last : Option ℕ) (back : List ℕ) → IsTrail table last back → IfSome last (λ o. o < length table)
IfSome-last table None back trail = tt
IfSome-last table (Some o) [] trail = let e : Some o ≡ None = trail in cc
IfSome-last table (Some o) (x ∷ back) trail =
    let e : Some o ≡ Some x = trail.0 in
    let same : o ≡ x = cc in
    let low = trail.1 in
    omega (arith, same, low)

module _ (d : DataLists) (l : Lattice) (span : Span) (table : List Reached) where
  -- the table's costs are the least
  pub AreLeastCosts-table : AreForward l.entries → IsWholeTable d l.entries span table → AreLeastCosts d l.entries span (map (λ o. (reached table o).cost) (ordinals_in l.entries span))
  unfolding ordinals_in
  AreLeastCosts-table forward whole = record { count = length-map os cost; each = each }
    where
      os : List ℕ
      os = ordinals_in l.entries span

      cost : ℕ → ℤ
      cost o = (reached table o).cost

      at : (i : ℕ) → i < length os → IsLeastCost d l.entries span (slice_index os i) (reached table (slice_index os i)).cost
      at i low =
          let o = slice_index os i in
          let found = from_filter (λ x. is_in span (entry l.entries x)) o (range_with_len 0 (length l.entries)) (Among-get_or os i 0 low) in
          let inside = (from_range 0 (length l.entries) o found.0).1 in
          let row = whole.is.rows o (in_table l.entries span forward (length table) o whole.all (omega (arith, inside)) found.1) found.1 in
          IsLeastCost-from_first d l.entries span o row.back (reached table o).cost row.first row.cost_is

      each : (i : ℕ) → i < length (map cost os) → IsLeastCost d l.entries span (slice_index os i) (slice_index_or (map cost os) i (pos 0))
      each i low =
          let inside : i < length os = omega (arith, low, length-map os cost) in
          subst (λ c. IsLeastCost d l.entries span (slice_index os i) c) (sym (get_or-map cost os i 0 (pos 0) inside)) (at i inside)

  module _ (r : Reached) (is : IsReached d l.entries span table span.end span.right (pos 0) r) (path : List ℕ) (trail : (back : List ℕ) × IsTrail table r.before back × (path ≡ reverse back)) where
    path_is : path ≡ reverse is.back
    path_is = trail.2 ∙ ap reverse (IsTrail-one table r.before trail.0 is.back trail.1 is.trail)

    pub IsBest-reached : IsBest d l.entries span path
    IsBest-reached =
        subst (λ p. IsBest d l.entries span p) (sym path_is) (IsBest-from_first d l.entries span is.back is.first)

    pub total_is : r.cost ≡ path_cost d l.entries span path
    total_is =
        let e = is.cost_is in
        let f = cost_between-reverse d l.entries span.left span.right is.back in
        let h = ap (path_cost d l.entries span) path_is in
        omega (arith, ints, e, f, h)

    pub IsWithin-total : AreDataSound d → IsWellFormed d l → IsSpan d l span → IsWithin (most_path (span.end - span.begin)) r.cost
    IsWithin-total sound well spans =
        subst (λ c. IsWithin (most_path (span.end - span.begin)) c) (sym total_is) (IsWithin-path_cost d l span path sound well spans IsBest-reached.joined)

    pub IsCertificate-reached : AreForward l.entries → IsWholeTable d l.entries span table → IsSpan d l span → (potentials : List ℤ) → potentials ≡ map (λ o. (reached table o).cost) (ordinals_in l.entries span) → (total : ℤ) → total ≡ r.cost → IsCertificate (record { lists = d; entries = l.entries; span = span; path = path; potentials = potentials; total = total })
    IsCertificate-reached forward whole spans potentials are total same =
        IsCertificate-from_least (record { lists = d; entries = l.entries; span = span; path = path; potentials = potentials; total = total }) spans.forward (subst (λ ps. AreLeastCosts d l.entries span ps) (sym are) (AreLeastCosts-table forward whole)) IsBest-reached (same ∙ total_is)
