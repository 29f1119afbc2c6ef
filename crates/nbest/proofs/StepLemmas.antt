-- The steps of a search: it begins, its first tail grows, its first tail is taken.
use Rattle.std.proofs.Common.{◌≡◌, refl, sym, ap, ◌∙◌, subst, ℕ, ◌+◌, ◌<◌, ◌≤◌, Bool, true, false, ltb, List, [], ◌∷◌, Option, Some, None, Result, Ok, Err, drop, length, get_or, map, arith}
use Rattle.std.specs.Prelude.{ℤ, pos, ◌+ℤ◌, ◌-ℤ◌, IfOk, count_by, reverse, slice_index_or, OnErr, OnOk}
use Rattle.std.specs.List.{range_with_len}
use Rattle.std.specs.List.Sorted.{IsNonDecreasingBy, IsPermutation}
use Rattle.std.proofs.lemmas.Bool.Decides.{nat_tests}
use Rattle.std.proofs.lemmas.Int.{ints}
use Rattle.std.proofs.lemmas.List.FromFn.{get_or-range_with_len, length-range_with_len}
use Rattle.std.proofs.lemmas.List.Sorted.{All-permutation, sum_by-IsPermutation}
use Rattle.mz_base.specs.Data.{AreDataSound, DataLists}
use Rattle.mz_base.specs.declared.lattice.Entry.{Entry}
use Rattle.mz_base.specs.declared.lattice.Lattice.{Lattice}
use Rattle.mz_base.specs.declared.lattice.Span.{Span}
use Rattle.mz_base.specs.declared.memory.NoMemory.{NoMemory}
use Rattle.conversion_meaning.specs.Bounds.{IsWithin}
use Rattle.conversion_meaning.specs.InOrder.{paths_in_order}
use Rattle.conversion_meaning.specs.Lattices.{IsWellFormed, entry}
use Rattle.conversion_meaning.specs.Paths.{IsPathOver, IsSpan}
use Rattle.conversion_meaning.specs.Potentials.{AreLeastCosts, IsLeastCost, is_in, ordinals_in}
use Rattle.conversion_meaning.proofs.CostBounds.{IsWithin-least}
use Rattle.viterbi.specs.Table.{most_reached}
use Rattle.nbest.specs.Costs.{begins_at, by_ordinal}
use Rattle.nbest.specs.Lists.{Listed}
use Rattle.nbest.specs.Searches.{AreCosts, AreKept, AreLonger, AreSiblings, Gives, IsJoin, IsSearch, IsTail, Search, begin_of, ends_so, first_found, first_of, found_from, is_open, still_to_come, longer_tails}
use Rattle.nbest.specs.Tails.{Ending, IsFirstOf, Replaces, begun_by, no_ending}
use Rattle.nbest.specs.declared.tail.Sibling.{Sibling}
use Rattle.nbest.specs.Weights.{weight, weight_of}
use Rattle.nbest.specs.declared.found.Found.{Found}
use Rattle.nbest.specs.declared.join.Join.{Join}
use Rattle.nbest.proofs.CostLemmas.{by_ordinal-at, by_ordinal-other, length-by_ordinal}
use Rattle.nbest.proofs.CountLemmas.{All-replaced, All-taken, sum_replaced, sum_taken, tally}
use Rattle.nbest.proofs.FamilyLemmas.{longer_tails-begun}
use Rattle.nbest.proofs.FirstLemmas.{is_open-first, open_first, whole_first}
use Rattle.nbest.proofs.GrowLemmas.{All-longer, count_longer, weight-longer}
use Rattle.nbest.proofs.SearchLemmas.{cost_is, still_to_come-all, still_to_come-none, still_to_come-same, still_to_come-taken}

-- ---- The least costs by ordinal

module _ (d : DataLists) (l : Lattice) (span : Span) (sound : AreDataSound d) (well : IsWellFormed d l) (is : IsSpan d l span) (potentials : List ℤ) (are : AreLeastCosts d l.entries span potentials) where
  abbrev inside : ℕ → Bool
  inside o = is_in span (entry l.entries o)

  abbrev all : List ℕ
  all = range_with_len 0 (length l.entries)

  place : (o : ℕ) → o < length l.entries → get_or all o 0 ≡ o
  place o low =
      get_or-range_with_len 0 (length l.entries) o 0 low ∙ (let e : 0 + o ≡ o = omega arith in e)

  count : length (by_ordinal inside all potentials 0) ≡ length l.entries
  count =
      length-by_ordinal inside potentials all 0 ∙ length-range_with_len 0 (length l.entries)

  least : (o : ℕ) → o < length l.entries → is_in span (entry l.entries o) ≡ true → IsLeastCost d l.entries span o (slice_index_or (by_ordinal inside all potentials 0) o (pos 0))
  unfolding ordinals_in
  least o low passes =
      let at = place o low in
      let r = by_ordinal-at inside potentials all 0 o (let n = length-range_with_len 0 (length l.entries) in omega (arith, low, n)) (ap inside at ∙ passes) in
      let n = are.count in
      let k_low = r.1 in
      let each = are.each r.0 (omega (arith, n, k_low)) in
      let zero_plus : 0 + r.0 ≡ r.0 = omega arith in
      subst (λ c. IsLeastCost d l.entries span o c) (sym (r.2 ∙ ap (λ k. get_or potentials k (pos 0)) zero_plus)) (subst (λ x. IsLeastCost d l.entries span x (slice_index_or potentials r.0 (pos 0))) (r.3 ∙ at) each)

  small : (o : ℕ) → o < length (by_ordinal inside all potentials 0) → IsWithin most_reached (slice_index_or (by_ordinal inside all potentials 0) o (pos 0))
  small o low = by_test (inside o) refl
    where
      o_low : o < length l.entries
      o_low = subst (λ n. o < n) count low

      by_test : (b : Bool) → is_in span (entry l.entries o) ≡ b → IsWithin most_reached (slice_index_or (by_ordinal inside all potentials 0) o (pos 0))
      by_test true passes =
          let h = IsWithin-least d l span o _ sound well is o_low (least o o_low passes) in
          let above = h.above in
          let below = h.below in
          let few = well.key.few in
          let last = is.inside in
          let e : (entry l.entries o).end ≤ span.end = grind (arith, nat_tests, passes) in
          record { above = omega (arith, ints, above, e, few, last); below = omega (arith, ints, below, e, few, last) }
      by_test false fails =
          let none = by_ordinal-other inside potentials all 0 o (ap inside (place o o_low) ∙ fails) in
          record { above = omega (arith, ints, none); below = omega (arith, ints, none) }

  pub AreCosts-by_ordinal : AreCosts d l.entries span (by_ordinal (λ o. is_in span (entry l.entries o)) (range_with_len 0 (length l.entries)) potentials 0)
  AreCosts-by_ordinal = record { count = count; least = least; small = small }

-- entries rise by begin
pub IsNonDecreasingBy-begins : (d : DataLists) (l : Lattice) → IsWellFormed d l → IsNonDecreasingBy begins_at l.entries
IsNonDecreasingBy-begins d l well i j e below inside = by_test (ltb i j) refl
  where
    by_test : (b : Bool) → ltb i j ≡ b → begins_at (get_or l.entries i e) ≤ begins_at (get_or l.entries j e)
    by_test true less =
        let low : i < j = grind (arith, nat_tests, less) in
        (well.rising i j e low inside).begins
    by_test false more =
        let same : i ≡ j = grind (arith, nat_tests, more, below) in
        let k = ap (λ m. begins_at (get_or l.entries m e)) same in
        omega (arith, k)

-- ---- A search begins

module _ (d : DataLists) (l : Lattice) (span : Span) (well : IsWellFormed d l) (is : IsSpan d l span) (costs : List ℤ) (are : AreCosts d l.entries span costs) (join : Join) (joins : IsJoin d l.entries span [] join) (queue : List Ending) (same : IsPermutation (longer_tails d l span costs [] join) queue) (cache : List (Option Listed)) where
  one : (path : List ℕ) → IsPathOver l.entries span path → count_by (ends_so path) queue ≡ 1
  one path joined =
      let ahead = is.forward in
      sum_by-IsPermutation (λ e. tally (ends_so path e)) (longer_tails d l span costs [] join) queue same ∙ count_longer d l span well is costs [] join path joins.begin_is (λ e. omega (arith, ahead, e)) joined

  pub IsSearch-begun : AreKept d l span costs cache → IsSearch d l (record { span = span; costs = costs; queue = queue; cache = cache })
  IsSearch-begun kept = record {
    span = is;
    costs = are;
    tails = All-permutation (IsTail d l.entries span) (longer_tails d l span costs [] join) queue same (All-longer d l span well is costs [] join are (record { way = refl; low = (let ahead = is.forward in omega (arith, ahead)) }) joins);
    once = λ path joined. (let n = one path joined in omega (arith, n));
    cache = kept;
  }

  pub still_to_come-begun : still_to_come d l.entries (record { span = span; costs = costs; queue = queue; cache = cache }) ≡ paths_in_order d l.entries span
  still_to_come-begun = still_to_come-all d l span well is costs cache queue one

-- ---- The first tail grows

module _ (d : DataLists) (l : Lattice) (s : Search) (well : IsWellFormed d l) (search : IsSearch d l s) (opens : is_open l.entries s.span s.queue ≡ true) (tails new : List Ending) (longer : AreLonger d l s tails) (replaced : Replaces s.queue tails new) (cache : List (Option Listed)) where
  abbrev first : Ending
  first = get_or s.queue 0 no_ending

  some : 0 < length s.queue
  some = (open_first l.entries s.span s.queue opens).0

  first_tail : IsTail d l.entries s.span first
  first_tail = search.tails 0 no_ending some

  counted : (path : List ℕ) → IsPathOver l.entries s.span path → count_by (ends_so path) new ≡ count_by (ends_so path) s.queue
  counted path joined =
      let a = sum_replaced (λ e. tally (ends_so path e)) s.queue tails new replaced in
      let b = sum_by-IsPermutation (λ e. tally (ends_so path e)) (longer_tails d l s.span s.costs first.ordinals longer.join) tails longer.are in
      let c = count_longer d l s.span well search.span s.costs first.ordinals longer.join path longer.joins.begin_is (open_first l.entries s.span s.queue opens).1 joined in
      omega (arith, a, b, c)

  pub IsSearch-longer : AreKept d l s.span s.costs cache → IsSearch d l (record { span = s.span; costs = s.costs; queue = new; cache = cache })
  IsSearch-longer kept = record {
    span = search.span;
    costs = search.costs;
    tails = All-replaced (IsTail d l.entries s.span) s.queue tails new replaced search.tails (All-permutation (IsTail d l.entries s.span) (longer_tails d l s.span s.costs first.ordinals longer.join) tails longer.are (All-longer d l s.span well search.span s.costs first.ordinals longer.join search.costs first_tail.part longer.joins));
    once = λ path joined. (let n = counted path joined in let o = search.once path joined in omega (arith, n, o));
    cache = kept;
  }

  pub still_to_come-longer : still_to_come d l.entries (record { span = s.span; costs = s.costs; queue = new; cache = cache }) ≡ still_to_come d l.entries s
  still_to_come-longer = still_to_come-same d l s.span well search.span s.costs s.costs s.cache cache s.queue new counted

  pub weight-less : weight l s.span new < weight l s.span s.queue
  unfolding weight
  weight-less =
      let a = sum_replaced (weight_of l s.span) s.queue tails new replaced in
      let b = sum_by-IsPermutation (weight_of l s.span) (longer_tails d l s.span s.costs first.ordinals longer.join) tails longer.are in
      let c = weight-longer d l s.span well search.span s.costs first longer.join first_tail.part longer.joins.begin_is in
      omega (arith, a, b, c)

-- a search that keeps other lists
pub IsSearch-kept : (d : DataLists) (l : Lattice) (s : Search) (cache : List (Option Listed)) → IsSearch d l s → AreKept d l s.span s.costs cache → IsSearch d l (record { span = s.span; costs = s.costs; queue = s.queue; cache = cache })
IsSearch-kept d l s cache search kept =
    record { span = search.span; costs = search.costs; tails = search.tails; once = search.once; cache = kept }

pub still_to_come-kept : (d : DataLists) (es : List Entry) (s : Search) (cache : List (Option Listed)) → still_to_come d es (record { span = s.span; costs = s.costs; queue = s.queue; cache = cache }) ≡ still_to_come d es s
unfolding still_to_come
still_to_come-kept d es s cache = refl

-- the same where the room was there, or nothing but the lists changed
module _ (d : DataLists) (l : Lattice) (s : Search) (well : IsWellFormed d l) (search : IsSearch d l s) (opens : is_open l.entries s.span s.queue ≡ true) (tails new : List Ending) (longer : AreLonger d l s tails) (cache : List (Option Listed)) where
  abbrev grown_to : List Ending → Search
  grown_to queue = record { span = s.span; costs = s.costs; queue = queue; cache = cache }

  pub IsSearch-grown : AreKept d l s.span s.costs cache → (r : Result (Unit {0}) NoMemory) → OnOk r (Replaces s.queue tails new) → OnErr r (new ≡ s.queue) → IsSearch d l (record { span = s.span; costs = s.costs; queue = new; cache = cache })
  IsSearch-grown kept (Ok _) replaced same = IsSearch-longer d l s well search opens tails new longer replaced cache kept
  IsSearch-grown kept (Err _) replaced same =
      subst (λ q. IsSearch d l (grown_to q)) (sym same) (IsSearch-kept d l s cache search kept)

  pub still_to_come-grown : (r : Result (Unit {0}) NoMemory) → OnOk r (Replaces s.queue tails new) → OnErr r (new ≡ s.queue) → still_to_come d l.entries (record { span = s.span; costs = s.costs; queue = new; cache = cache }) ≡ still_to_come d l.entries s
  still_to_come-grown (Ok _) replaced same = still_to_come-longer d l s well search opens tails new longer replaced cache
  still_to_come-grown (Err _) replaced same =
      ap (λ q. still_to_come d l.entries (grown_to q)) same ∙ still_to_come-kept d l.entries s cache

  pub weight-grown : (r : Result (Unit {0}) NoMemory) → OnOk r (Replaces s.queue tails new) → OnOk r (weight l s.span new < weight l s.span s.queue)
  weight-grown (Ok _) replaced = weight-less d l s well search opens tails new longer replaced cache
  weight-grown (Err _) replaced = tt

-- ---- The first tail is taken

module _ (d : DataLists) (l : Lattice) (s new : Search) (well : IsWellFormed d l) (search : IsSearch d l s) (closed : is_open l.entries s.span s.queue ≡ false) where
  abbrev with_queue : List Ending → Search
  with_queue queue = record { span = s.span; costs = s.costs; queue = queue; cache = s.cache }

  same_search : (t : Search) (queue : List Ending) → t.span ≡ s.span → t.costs ≡ s.costs → t.cache ≡ s.cache → t.queue ≡ queue → t ≡ with_queue queue
  same_search t queue span costs cache is =
      ap (λ x. record { span = x; costs = t.costs; queue = t.queue; cache = t.cache }) span ∙ (ap (λ x. record { span = s.span; costs = x; queue = t.queue; cache = t.cache }) costs ∙ (ap (λ x. record { span = s.span; costs = s.costs; queue = t.queue; cache = x }) cache ∙ ap with_queue is))

  new_is : new.span ≡ s.span → new.costs ≡ s.costs → new.cache ≡ s.cache → new ≡ with_queue new.queue
  new_is span costs cache = same_search new new.queue span costs cache refl

  -- what a search gives where its first tail is whole, or it has none
  pub record Given (found : Option Found) : Type 0 where
    pub search_is : IsSearch d l new
    pub found_is : found ≡ first_found d l.entries s.span (still_to_come d l.entries s)
    pub rest_is : still_to_come d l.entries new ≡ drop 1 (still_to_come d l.entries s)

  none_left : s.queue ≡ [] → still_to_come d l.entries s ≡ []
  none_left none =
      ap (λ q. still_to_come d l.entries (with_queue q)) none ∙ still_to_come-none d l s.span well search.span s.costs s.cache

  given_some : (e : Ending) → IsFirstOf s.queue e → IsPermutation s.queue (e ∷ new.queue) → new.span ≡ s.span → new.costs ≡ s.costs → new.cache ≡ s.cache → Given (Some (found_from e))
  given_some e first taken span costs cache = record {
    search_is = subst (λ t. IsSearch d l t) (sym (new_is span costs cache)) (record {
      span = search.span;
      costs = search.costs;
      tails = All-taken (IsTail d l.entries s.span) s.queue e new.queue taken search.tails;
      once = λ path joined. (let a = sum_taken (λ x. tally (ends_so path x)) s.queue e new.queue taken in let b = search.once path joined in omega (arith, a, b));
      cache = search.cache;
    });
    found_is = sym (ap (first_found d l.entries s.span) ways ∙ ap (λ c. Some (record { path = reverse e.ordinals; cost = c })) (sym (cost_is d l s.span well search.span e tail whole)));
    rest_is = ap (still_to_come d l.entries) (new_is span costs cache) ∙ ap (drop 1) (sym ways);
  }
    where
      tail : IsTail d l.entries s.span e
      tail =
          subst (λ x. IsTail d l.entries s.span x) first.stands (search.tails 0 no_ending first.some)

      whole : begin_of l.entries s.span.end e.ordinals ≡ s.span.begin
      whole =
          whole_first l.entries s.span e (sym (is_open-first l.entries s.span s.queue e first) ∙ closed)

      ways : still_to_come d l.entries s ≡ reverse e.ordinals ∷ still_to_come d l.entries (with_queue new.queue)
      ways =
          still_to_come-taken d l s.span well search.span e tail whole s.costs s.cache s.queue new.queue search first taken

  pub given : (found : Option Found) → Gives s new found → Given found
  given None gives =
      let nothing = none_left gives.none.1 in
      let kept : new ≡ s = new_is gives.span gives.costs gives.cache ∙ ap with_queue gives.none.0 in
      record {
        search_is = subst (λ t. IsSearch d l t) (sym kept) search;
        found_is = sym (ap (first_found d l.entries s.span) nothing);
        rest_is = ap (still_to_come d l.entries) kept ∙ (nothing ∙ sym (ap (drop 1) nothing));
      }
  given (Some found) gives =
      let r = gives.some in
      subst (λ f. Given (Some f)) (sym r.3) (given_some r.0 r.1 r.2 gives.span gives.costs gives.cache)

  -- the same where the room was there, or nothing changed
  pub record Taken (r : Result (Option Found) NoMemory) : Type 0 where
    pub search_is : IsSearch d l new
    pub found_is : IfOk r (λ found. found ≡ first_found d l.entries s.span (still_to_come d l.entries s))
    pub rest_is : OnOk r (still_to_come d l.entries new ≡ drop 1 (still_to_come d l.entries s))
    pub err_is : OnErr r (still_to_come d l.entries new ≡ still_to_come d l.entries s)

  pub taken : (r : Result (Option Found) NoMemory) → IfOk r (λ found. Gives s new found) → OnErr r (new ≡ s) → Taken r
  taken (Ok found) gives kept =
      let g = given found gives in
      record { search_is = g.search_is; found_is = g.found_is; rest_is = g.rest_is; err_is = tt }
  taken (Err _) gives kept = record {
    search_is = subst (λ t. IsSearch d l t) (sym kept) search;
    found_is = tt;
    rest_is = tt;
    err_is = ap (still_to_come d l.entries) kept;
  }

-- ---- The first tail of a search

pub first_tail_of : (d : DataLists) (l : Lattice) (s : Search) (e : Ending) → IsSearch d l s → IsFirstOf s.queue e → IsTail d l.entries s.span e
first_tail_of d l s e search first =
    subst (λ x. IsTail d l.entries s.span x) first.stands (search.tails 0 no_ending first.some)

-- the siblings at its join make the longer tails
pub AreLonger-from : (d : DataLists) (l : Lattice) (s : Search) (join : Join) (ss : List Sibling) (tails : List Ending) → IsJoin d l.entries s.span (get_or s.queue 0 no_ending).ordinals join → AreSiblings d l s.span s.costs join.begin join.lid ss → tails ≡ map (begun_by (get_or s.queue 0 no_ending).ordinals join.rest) ss → AreLonger d l s tails
AreLonger-from d l s join ss tails joins are made = record {
  join = join;
  joins = joins;
  are = subst (λ es. IsPermutation (longer_tails d l s.span s.costs (get_or s.queue 0 no_ending).ordinals join) es) (sym made) (longer_tails-begun d l s.span s.costs (get_or s.queue 0 no_ending).ordinals join ss are);
}

pub rest_same : (costs other : List ℤ) (es those : List Entry) (e : Ending) → costs ≡ other → es ≡ those → ((e.estimate -ℤ slice_index_or costs (first_of e.ordinals) (pos 0)) +ℤ (entry es (first_of e.ordinals)).cost) ≡ ((e.estimate -ℤ slice_index_or other (first_of e.ordinals) (pos 0)) +ℤ (entry those (first_of e.ordinals)).cost)
rest_same costs other es those e same are =
    ap (λ (x : List ℤ). (e.estimate -ℤ slice_index_or x (first_of e.ordinals) (pos 0)) +ℤ (entry es (first_of e.ordinals)).cost) same ∙ ap (λ (x : List Entry). (e.estimate -ℤ slice_index_or other (first_of e.ordinals) (pos 0)) +ℤ (entry x (first_of e.ordinals)).cost) are

pub AreCosts-made : (d : DataLists) (l : Lattice) (span : Span) → AreDataSound d → IsWellFormed d l → IsSpan d l span → (potentials : List ℤ) → AreLeastCosts d l.entries span potentials → (es : List Entry) (given_costs made : List ℤ) → es ≡ l.entries → given_costs ≡ potentials → made ≡ by_ordinal (λ o. is_in span (entry es o)) (range_with_len 0 (length es)) given_costs 0 → AreCosts d l.entries span made
AreCosts-made d l span sound well is potentials are es given_costs made same given_are is_made =
    subst (λ cs. AreCosts d l.entries span cs) (sym (is_made ∙ (ap (λ x. by_ordinal (λ o. is_in span (entry x o)) (range_with_len 0 (length x)) given_costs 0) same ∙ ap (λ x. by_ordinal (λ o. is_in span (entry l.entries o)) (range_with_len 0 (length l.entries)) x 0) given_are))) (AreCosts-by_ordinal d l span sound well is potentials are)
