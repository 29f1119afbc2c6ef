-- What a search has still to give, as its queue changes.
use Rattle.std.proofs.Common.{◌≡◌, refl, sym, ap, ◌∙◌, subst, ℕ, ◌+◌, Bool, true, false, cond, ltb, ◌⊎◌, inl, inr, List, [], ◌∷◌, ◌++◌, Option, arith}
use Rattle.std.specs.Prelude.{◌≢◌, ℤ, ◌<ℤ◌, ◌||◌, count_by, reverse}
use Rattle.std.specs.declared.cmp.Ordering.{Ordering}
use Rattle.std.specs.declared.cmp.Ordering.TheVariants.{Less, Equal, Greater}
use Rattle.std.specs.Cmp.Lexicographic.{slice_cmp}
use Rattle.std.specs.List.{filter, list_any}
use Rattle.std.specs.List.Sorted.{IsPermutation}
use Rattle.std.specs.Ordering.{nat_cmp, ordering_then}
use Rattle.std.proofs.lemmas.Int.{ints}
use Rattle.std.proofs.lemmas.List.{reverse-reverse, append-nil}
use Rattle.std.proofs.lemmas.Map.Lookups.{exact_bytes}
use Rattle.mz_base.specs.Data.{DataLists}
use Rattle.mz_base.specs.declared.lattice.Lattice.{Lattice}
use Rattle.mz_base.specs.declared.lattice.Span.{Span}
use Rattle.conversion_meaning.specs.InOrder.{paths_in_order}
use Rattle.conversion_meaning.specs.Lattices.{IsWellFormed}
use Rattle.conversion_meaning.specs.Order.{IsBefore, IsLowerFromLast}
use Rattle.conversion_meaning.specs.Paths.{IsPathOver, IsSpan, path_cost}
use Rattle.conversion_meaning.proofs.BestLemmas.{AreForward-from_well}
use Rattle.conversion_meaning.proofs.Duality.{AreForward}
use Rattle.conversion_meaning.proofs.InOrderLemmas.{Among-paths_in_order, Rises-paths_in_order, apart, from_paths_in_order}
use Rattle.conversion_meaning.proofs.Lists.{Among, Rises, place_of}
use Rattle.conversion_meaning.proofs.Ordered.{not_before_back}
use Rattle.conversion_meaning.proofs.Recurrence.{number_cases}
use Rattle.viterbi.specs.Back.{IsWayBack, cost_back}
use Rattle.viterbi.proofs.BackLemmas.{IsPath-reverse, IsWayBack-reverse, cost_back-reverse, cost_between-reverse}
use Rattle.nbest.specs.Lists.{Listed}
use Rattle.nbest.specs.Searches.{IsSearch, IsTail, begin_of, ends_so, is_front, still_to_come}
use Rattle.nbest.specs.Tails.{Ending, IsFirstOf, IsNotBehind, no_ending}
use Rattle.nbest.proofs.CountLemmas.{any_counted, sum_taken, tally}
use Rattle.nbest.proofs.TailLemmas.{front_rest, is_front-append, only_empty, way-split}

-- ---- Filters

-- tests that answer alike keep the same
pub filter-same : {X : Type 0} (f g : X → Bool) (xs : List X) → ((x : X) → Among x xs → f x ≡ g x) → filter f xs ≡ filter g xs
filter-same f g [] same = refl
filter-same f g (x ∷ xs) same =
    let rest = filter-same f g xs (λ y h. same y (inr h)) in
    ap (λ b. cond b (x ∷ filter f xs) (filter f xs)) (same x (inl refl)) ∙ ap (λ ys. cond (g x) (x ∷ ys) ys) rest

pub filter-all : {X : Type 0} (f : X → Bool) (xs : List X) → ((x : X) → Among x xs → f x ≡ true) → filter f xs ≡ xs
filter-all f [] passes = refl
filter-all f (x ∷ xs) passes =
    rw (passes x (inl refl)) (ap (λ ys. x ∷ ys) (filter-all f xs (λ y h. passes y (inr h))))

pub filter-none : {X : Type 0} (xs : List X) → filter (λ (x : X). false) xs ≡ []
filter-none [] = refl
filter-none (x ∷ xs) = filter-none xs

-- In a list that rises, what passes one test and is before all else that does is the first that is kept; the other test,
-- which fails at it and else answers alike, keeps the rest.
pub first_kept : {X : Type 0} (R : X → X → Type 0) → ((x y : X) → R x y → ¬ (R y x)) → ((x y : X) → R x y → x ≢ y) → (f g : X → Bool) (w : X) (xs : List X) → Rises R xs → Among w xs → f w ≡ true → g w ≡ false → ((x : X) → Among x xs → f x ≡ true → x ≢ w → R w x) → ((x : X) → Among x xs → x ≢ w → g x ≡ f x) → filter f xs ≡ w ∷ filter g xs
first_kept R never differ f g w [] rises h passes fails first same = absurd h
first_kept {X} R never differ f g w (x ∷ xs) rises (inl is) passes fails first same =
    let kept : f x ≡ true = ap f is ∙ passes in
    let lost : g x ≡ false = ap g is ∙ fails in
    rw (kept, lost) (ap (λ y. y ∷ filter f xs) is ∙ ap (λ ys. w ∷ ys) (filter-same f g xs (λ y h. sym (same y (inr h) (λ e. differ x y (rises.0 y h) (is ∙ sym e))))))
first_kept {X} R never differ f g w (x ∷ xs) rises (inr later) passes fails first same =
    by_test (f x) refl (first_kept R never differ f g w xs rises.1 later passes fails (λ y h. first y (inr h)) (λ y h. same y (inr h)))
  where
    before : R x w
    before = rises.0 w later

    by_test : (b : Bool) → f x ≡ b → filter f xs ≡ w ∷ filter g xs → cond (f x) (x ∷ filter f xs) (filter f xs) ≡ w ∷ cond (g x) (x ∷ filter g xs) (filter g xs)
    by_test true is rest =
        absurd (never x w before (first x (inl refl) is (differ x w before)))
    by_test false is rest =
        let lost : g x ≡ false = same x (inl refl) (differ x w before) ∙ is in
        rw (is, lost) rest

-- ---- The order of lists

cmp-append : (p q more : List ℕ) → slice_cmp nat_cmp p q ≢ Greater → slice_cmp nat_cmp p (q ++ more) ≢ Greater
cmp-append [] [] [] h same = let clash : Equal ≡ Greater = same in cc
cmp-append [] [] (x ∷ more) h same = let clash : Less ≡ Greater = same in cc
cmp-append [] (y ∷ q) more h same = let clash : Less ≡ Greater = same in cc
cmp-append (x ∷ p) [] more h same = h refl
cmp-append (x ∷ p) (y ∷ q) more h same =
    by_order (nat_cmp x y) h (cmp-append p q more) same
  where
    by_order : (o : Ordering) → ordering_then o (slice_cmp nat_cmp p q) ≢ Greater → (slice_cmp nat_cmp p q ≢ Greater → slice_cmp nat_cmp p (q ++ more) ≢ Greater) → ordering_then o (slice_cmp nat_cmp p (q ++ more)) ≢ Greater
    by_order Less h rest same = let clash : Less ≡ Greater = same in cc
    by_order Equal h rest same = rest h same
    by_order Greater h rest same = h refl

cmp-less : (p q : List ℕ) → slice_cmp nat_cmp p q ≢ Greater → p ≢ q → slice_cmp nat_cmp p q ≡ Less
cmp-less p q h differ = by_order (slice_cmp nat_cmp p q) refl
  where
    by_order : (o : Ordering) → slice_cmp nat_cmp p q ≡ o → slice_cmp nat_cmp p q ≡ Less
    by_order Less is = is
    by_order Equal is = absurd (differ (exact_bytes p q is))
    by_order Greater is = absurd (h is)

-- ---- What is still to come

module _ (d : DataLists) (l : Lattice) (span : Span) (well : IsWellFormed d l) (is : IsSpan d l span) where
  forward : AreForward l.entries
  forward = AreForward-from_well d l well

  -- what is to come goes by how many tails a path ends with
  comes : List Ending → List ℕ → Bool
  comes queue path = list_any (ends_so path) queue

  comes-same : (old new : List Ending) (path : List ℕ) → count_by (ends_so path) new ≡ count_by (ends_so path) old → list_any (ends_so path) old ≡ list_any (ends_so path) new
  comes-same old new path same =
      any_counted (ends_so path) old ∙ (ap (ltb 0) (sym same) ∙ sym (any_counted (ends_so path) new))

  pub still_to_come-same : (costs more : List ℤ) (cache other : List (Option Listed)) (old new : List Ending) → ((path : List ℕ) → IsPathOver l.entries span path → count_by (ends_so path) new ≡ count_by (ends_so path) old) → still_to_come d l.entries (record { span = span; costs = more; queue = new; cache = other }) ≡ still_to_come d l.entries (record { span = span; costs = costs; queue = old; cache = cache })
  unfolding still_to_come
  still_to_come-same costs more cache other old new same =
      sym (filter-same (λ path. list_any (ends_so path) old) (λ path. list_any (ends_so path) new) (paths_in_order d l.entries span) (λ path h. comes-same old new path (same path (from_paths_in_order d l.entries span path h))))

  pub still_to_come-all : (costs : List ℤ) (cache : List (Option Listed)) (queue : List Ending) → ((path : List ℕ) → IsPathOver l.entries span path → count_by (ends_so path) queue ≡ 1) → still_to_come d l.entries (record { span = span; costs = costs; queue = queue; cache = cache }) ≡ paths_in_order d l.entries span
  unfolding still_to_come
  still_to_come-all costs cache queue one =
      filter-all (λ path. list_any (ends_so path) queue) (paths_in_order d l.entries span) (λ path h. any_counted (ends_so path) queue ∙ ap (ltb 0) (one path (from_paths_in_order d l.entries span path h)))

  pub still_to_come-none : (costs : List ℤ) (cache : List (Option Listed)) → still_to_come d l.entries (record { span = span; costs = costs; queue = []; cache = cache }) ≡ []
  unfolding still_to_come
  still_to_come-none costs cache = filter-none (paths_in_order d l.entries span)

  -- ---- A whole tail that is first

  module _ (e : Ending) (tail : IsTail d l.entries span e) (whole : begin_of l.entries span.end e.ordinals ≡ span.begin) where
    abbrev path : List ℕ
    path = reverse e.ordinals

    back_is : reverse (reverse e.ordinals) ≡ e.ordinals
    back_is = reverse-reverse e.ordinals

    way : IsWayBack l.entries span.begin span.end e.ordinals
    way = subst (λ n. IsWayBack l.entries n span.end e.ordinals) whole tail.part.way

    pub joined : IsPathOver l.entries span (reverse e.ordinals)
    joined = IsPath-reverse l.entries span.begin span.end e.ordinals way

    pub cost_is : e.estimate ≡ path_cost d l.entries span (reverse e.ordinals)
    cost_is =
        let r = tail.estimate.reached in
        let none : r.0 ≡ [] = only_empty l.entries forward span.begin r.0 (subst (λ n. IsWayBack l.entries span.begin n r.0) whole r.1) in
        let e1 = r.2 in
        let e2 : cost_back d l.entries span.left span.right (e.ordinals ++ r.0) ≡ cost_back d l.entries span.left span.right e.ordinals = ap (λ b. cost_back d l.entries span.left span.right (e.ordinals ++ b)) none ∙ ap (cost_back d l.entries span.left span.right) (append-nil e.ordinals) in
        let e3 = cost_between-reverse d l.entries span.left span.right e.ordinals in
        e1 ∙ (e2 ∙ sym e3)

    -- no other path ends with it
    ends_with : (p : List ℕ) → IsPathOver l.entries span p → p ≢ reverse e.ordinals → ends_so p e ≡ false
    ends_with p over differ = by_test (is_front e.ordinals (reverse p)) refl
      where
        by_test : (b : Bool) → is_front e.ordinals (reverse p) ≡ b → b ≡ false
        by_test false _ = refl
        by_test true begun =
            let r = front_rest e.ordinals (reverse p) begun in
            let w = IsWayBack-reverse l.entries span.begin span.end p over in
            let split = way-split l.entries span.begin span.end e.ordinals r.0 (subst (λ v. IsWayBack l.entries span.begin span.end v) r.1 w) in
            let none : r.0 ≡ [] = only_empty l.entries forward span.begin r.0 (subst (λ n. IsWayBack l.entries span.begin n r.0) whole split.1) in
            let same : reverse p ≡ e.ordinals = r.1 ∙ (ap (λ b. e.ordinals ++ b) none ∙ append-nil e.ordinals) in
            absurd (differ (sym (reverse-reverse p) ∙ ap reverse same))

    -- it ends with itself
    ends_self : ends_so (reverse e.ordinals) e ≡ true
    ends_self =
        ap (is_front e.ordinals) (back_is ∙ sym (append-nil e.ordinals)) ∙ is_front-append e.ordinals []

    -- it is before each path that ends with a tail behind it
    before_other : (other : Ending) (p : List ℕ) → IsTail d l.entries span other → IsNotBehind e other → IsPathOver l.entries span p → ends_so p other ≡ true → p ≢ reverse e.ordinals → IsBefore d l.entries span (reverse e.ordinals) p
    before_other other p is_tail behind over ends differ =
        by_rank behind (number_cases (path_cost d l.entries span (reverse e.ordinals)) (path_cost d l.entries span p))
      where
        r : (before : List ℕ) × (reverse p ≡ other.ordinals ++ before)
        r = front_rest other.ordinals (reverse p) ends

        low : path_cost d l.entries span p ≡ cost_back d l.entries span.left span.right (other.ordinals ++ (front_rest other.ordinals (reverse p) ends).0)
        low =
            sym (cost_back-reverse d l.entries span.left span.right p) ∙ ap (cost_back d l.entries span.left span.right) (front_rest other.ordinals (reverse p) ends).1

        split : IsWayBack l.entries span.begin (begin_of l.entries span.end other.ordinals) (front_rest other.ordinals (reverse p) ends).0
        split =
            (way-split l.entries span.begin span.end other.ordinals (front_rest other.ordinals (reverse p) ends).0 (subst (λ v. IsWayBack l.entries span.begin span.end v) (front_rest other.ordinals (reverse p) ends).1 (IsWayBack-reverse l.entries span.begin span.end p over))).1

        lower : slice_cmp nat_cmp e.ordinals other.ordinals ≢ Greater → IsLowerFromLast (reverse e.ordinals) p
        lower h =
            let further = cmp-append e.ordinals other.ordinals (front_rest other.ordinals (reverse p) ends).0 h in
            let to_p : slice_cmp nat_cmp e.ordinals (reverse p) ≢ Greater = subst (λ w. slice_cmp nat_cmp e.ordinals w ≢ Greater) (sym (front_rest other.ordinals (reverse p) ends).1) further in
            let less = cmp-less e.ordinals (reverse p) to_p (λ same. differ (sym (reverse-reverse p) ∙ ap reverse (sym same))) in
            subst (λ w. slice_cmp nat_cmp w (reverse p) ≡ Less) (sym back_is) less

        by_rank : IsNotBehind e other → (path_cost d l.entries span (reverse e.ordinals) <ℤ path_cost d l.entries span p) ⊎ ((path_cost d l.entries span (reverse e.ordinals) ≡ path_cost d l.entries span p) ⊎ (path_cost d l.entries span p <ℤ path_cost d l.entries span (reverse e.ordinals))) → IsBefore d l.entries span (reverse e.ordinals) p
        by_rank _ (inl less) = inl less
        by_rank (inl cheaper) (inr (inl same)) =
            let a = is_tail.estimate.least _ split in
            let b = low in
            let c = cost_is in
            absurd (omega (arith, ints, a, b, c, cheaper, same))
        by_rank (inr tie) (inr (inl same)) = inr (same, lower tie.1)
        by_rank (inl cheaper) (inr (inr more)) =
            let a = is_tail.estimate.least _ split in
            let b = low in
            let c = cost_is in
            absurd (omega (arith, ints, a, b, c, cheaper, more))
        by_rank (inr tie) (inr (inr more)) =
            let a = is_tail.estimate.least _ split in
            let b = low in
            let c = cost_is in
            let t = tie.0 in
            absurd (omega (arith, ints, a, b, c, t, more))

    module _ (costs : List ℤ) (cache : List (Option Listed)) (old new : List Ending) (search : IsSearch d l (record { span = span; costs = costs; queue = old; cache = cache })) (first : IsFirstOf old e) (taken : IsPermutation old (e ∷ new)) where
      one_less : (p : List ℕ) → count_by (ends_so p) new + tally (ends_so p e) ≡ count_by (ends_so p) old
      one_less p = sum_taken (λ x. cond (ends_so p x) 1 0) old e new taken

      pub kept_count : (p : List ℕ) → IsPathOver l.entries span p → p ≢ reverse e.ordinals → count_by (ends_so p) new ≡ count_by (ends_so p) old
      kept_count p over differ =
          let a = one_less p in
          let b : tally (ends_so p e) ≡ 0 = ap tally (ends_with p over differ) in
          omega (arith, a, b)

      own_count : (count_by (ends_so (reverse e.ordinals)) old ≡ 1) × (count_by (ends_so (reverse e.ordinals)) new ≡ 0)
      own_count =
          let a = one_less (reverse e.ordinals) in
          let b : tally (ends_so (reverse e.ordinals) e) ≡ 1 = ap tally ends_self in
          let c = search.once (reverse e.ordinals) joined in
          (omega (arith, a, b, c), omega (arith, a, b, c))

      from_comes : (p : List ℕ) (queue : List Ending) → list_any (ends_so p) queue ≡ true → (x : Ending) × Among x queue × (ends_so p x ≡ true)
      from_comes p [] h = absurd (let clash : false ≡ true = h in cc)
      from_comes p (x ∷ queue) h = by_test (ends_so p x) refl h (from_comes p queue)
        where
          by_test : (b : Bool) → ends_so p x ≡ b → (b || list_any (ends_so p) queue) ≡ true → (list_any (ends_so p) queue ≡ true → (y : Ending) × Among y queue × (ends_so p y ≡ true)) → (y : Ending) × Among y (x ∷ queue) × (ends_so p y ≡ true)
          by_test true yields h more = (x, inl refl, yields)
          by_test false yields h more = let r = more h in (r.0, inr r.1, r.2)

      -- it is the first of what is still to come, and the rest remains
      pub still_to_come-taken : still_to_come d l.entries (record { span = span; costs = costs; queue = old; cache = cache }) ≡ reverse e.ordinals ∷ still_to_come d l.entries (record { span = span; costs = costs; queue = new; cache = cache })
      unfolding still_to_come
      still_to_come-taken =
          first_kept (IsBefore d l.entries span) (not_before_back d l.entries span) (apart d l.entries span) (λ p. list_any (ends_so p) old) (λ p. list_any (ends_so p) new) (reverse e.ordinals) (paths_in_order d l.entries span) (Rises-paths_in_order d l.entries span) (Among-paths_in_order d l.entries span forward (reverse e.ordinals) joined) (any_counted (ends_so (reverse e.ordinals)) old ∙ ap (ltb 0) own_count.0) (any_counted (ends_so (reverse e.ordinals)) new ∙ ap (ltb 0) own_count.1) (λ p h comes differ. before p (from_paths_in_order d l.entries span p h) differ (from_comes p old comes)) (λ p h differ. sym (comes-same old new p (kept_count p (from_paths_in_order d l.entries span p h) differ)))
        where
          before : (p : List ℕ) → IsPathOver l.entries span p → p ≢ reverse e.ordinals → (x : Ending) × Among x old × (ends_so p x ≡ true) → IsBefore d l.entries span (reverse e.ordinals) p
          before p over differ r =
              let k = place_of r.0 old r.1 in
              let is_tail : IsTail d l.entries span r.0 = subst (λ x. IsTail d l.entries span x) (k.2 no_ending) (search.tails k.0 no_ending k.1) in
              let behind : IsNotBehind e r.0 = subst (λ x. IsNotBehind e x) (k.2 no_ending) (first.first k.0 no_ending k.1) in
              before_other r.0 p is_tail behind over r.2 differ
