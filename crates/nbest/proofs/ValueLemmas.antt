-- The first values, as they are gathered path by path.
use Rattle.std.proofs.Common.{◌≡◌, refl, sym, ap, ◌∙◌, subst, ℕ, zero, suc, ◌-◌, ◌<◌, ◌≤◌, Bool, true, false, cond, not, ◌&&◌, ◌||◌, inl, List, [], ◌∷◌, ◌++◌, Option, Some, None, map, take, drop, length, arith, append_assoc, append-nil}
use Rattle.std.specs.Prelude.{ℤ}
use Rattle.std.specs.Cmp.Lexicographic.{same_text}
use Rattle.std.specs.List.{All, filter, list_any}
use Rattle.std.proofs.lemmas.List.{length-append}
use Rattle.mz_base.specs.Data.{AreDataSound, DataLists, is_text}
use Rattle.mz_base.specs.declared.lattice.Candidate.{Candidate}
use Rattle.mz_base.specs.declared.lattice.Lattice.{Lattice}
use Rattle.mz_base.specs.declared.lattice.Span.{Span}
use Rattle.mz_base.specs.declared.user.UserRow.{UserRow}
use Rattle.conversion_meaning.specs.Bounds.{IsWithin, most_path}
use Rattle.conversion_meaning.specs.Candidates.{candidate_of, differs_from, first_of_each, first_values, path_value}
use Rattle.conversion_meaning.specs.Firsts.{firsts}
use Rattle.conversion_meaning.specs.InOrder.{paths_in_order}
use Rattle.conversion_meaning.specs.Paths.{IsPath, IsPathOver, IsSpan, path_cost}
use Rattle.conversion_meaning.specs.declared.candidates.TheConstants.{MOST_PATHS, MOST_VALUES}
use Rattle.conversion_meaning.specs.Lattices.{IsWellFormed, entry}
use Rattle.conversion_meaning.proofs.CostBounds.{IsWithin-path_cost}
use Rattle.conversion_meaning.proofs.InOrderLemmas.{from_paths_in_order}
use Rattle.conversion_meaning.proofs.Lists.{Among, from_filter}
use Rattle.nbest.specs.Kept.{is_new}
use Rattle.nbest.specs.Searches.{Search, ends_so, first_found, found_of, still_to_come}
use Rattle.nbest.specs.declared.found.Found.{Found}
use Rattle.nbest.proofs.SearchLemmas.{filter-same}

-- the candidate's value is new
abbrev pub news : List Candidate → Candidate → Bool
news values x = is_new values x.value

filter-filter : {X : Type 0} (p q : X → Bool) (xs : List X) → filter p (filter q xs) ≡ filter (λ x. p x && q x) xs
filter-filter p q [] = refl
filter-filter p q (x ∷ xs) = by_test (q x) (p x) (filter-filter p q xs)
  where
    by_test : (b c : Bool) → filter p (filter q xs) ≡ filter (λ y. p y && q y) xs → filter p (cond b (x ∷ filter q xs) (filter q xs)) ≡ cond (p x && b) (x ∷ filter (λ y. p y && q y) xs) (filter (λ y. p y && q y) xs)
    by_test true c same = on (p x)
      where
        on : (e : Bool) → cond e (x ∷ filter p (filter q xs)) (filter p (filter q xs)) ≡ cond (e && true) (x ∷ filter (λ y. p y && q y) xs) (filter (λ y. p y && q y) xs)
        on true = ap (λ ys. x ∷ ys) same
        on false = same
    by_test false c same = on (p x)
      where
        on : (e : Bool) → filter p (filter q xs) ≡ cond (e && false) (x ∷ filter (λ y. p y && q y) xs) (filter (λ y. p y && q y) xs)
        on true = same
        on false = same

news-push : (values : List Candidate) (c x : Candidate) → news (values ++ c ∷ []) x ≡ (news values x && differs_from c x)
news-push [] c x = on (is_text c.value x.value)
  where
    on : (b : Bool) → not (b || false) ≡ (true && not b)
    on true = refl
    on false = refl
news-push (v ∷ values) c x =
    on (is_text v.value x.value) (list_any (λ (k : Candidate). is_text k.value x.value) (values ++ c ∷ [])) (list_any (λ (k : Candidate). is_text k.value x.value) values) (news-push values c x)
  where
    on : (b e f : Bool) → not e ≡ (not f && differs_from c x) → not (b || e) ≡ (not (b || f) && differs_from c x)
    on true e f same = refl
    on false e f same = same

kept_new : (values : List Candidate) (c : Candidate) (rest : List Candidate) → news values c ≡ true → filter (news values) (c ∷ filter (differs_from c) rest) ≡ c ∷ filter (news (values ++ c ∷ [])) rest
kept_new values c rest is =
    rw is (ap (λ ys. c ∷ ys) (filter-filter (news values) (differs_from c) rest ∙ filter-same (λ x. news values x && differs_from c x) (news (values ++ c ∷ [])) rest (λ x _. sym (news-push values c x))))

dropped_old : (values : List Candidate) (c : Candidate) (rest : List Candidate) → news values c ≡ false → filter (news values) (c ∷ filter (differs_from c) rest) ≡ filter (news values) rest
dropped_old values c rest is =
    rw is (filter-filter (news values) (differs_from c) rest ∙ filter-same (λ x. news values x && differs_from c x) (news values) rest (λ x _. by_test x (is_text c.value x.value) refl))
  where
    by_test : (x : Candidate) (b : Bool) → is_text c.value x.value ≡ b → (news values x && not (is_text c.value x.value)) ≡ news values x
    by_test x true same =
        let one : x.value ≡ c.value = same_text x.value c.value (sym same) in
        let old : news values x ≡ false = ap (is_new values) one ∙ is in
        rw old refl
    by_test x false other = rw other (on (news values x))
      where
        on : (e : Bool) → (e && true) ≡ e
        on true = refl
        on false = refl

-- the step: a candidate that is new is added, and one that is not is left out
pub gathered : (values : List Candidate) (c : Candidate) (rest whole : List Candidate) → values ++ filter (news values) (first_of_each (c ∷ rest)) ≡ whole → (values ++ cond (news values c) (c ∷ []) []) ++ filter (news (values ++ cond (news values c) (c ∷ []) [])) (first_of_each rest) ≡ whole
unfolding firsts
gathered values c rest whole h = by_test (news values c) refl
  where
    by_test : (b : Bool) → news values c ≡ b → (values ++ cond b (c ∷ []) []) ++ filter (news (values ++ cond b (c ∷ []) [])) (first_of_each rest) ≡ whole
    by_test true is =
        append_assoc values (c ∷ []) (filter (news (values ++ c ∷ [])) (first_of_each rest)) ∙ (ap (λ ys. values ++ ys) (sym (kept_new values c (first_of_each rest) is)) ∙ h)
    by_test false is =
        ap (λ vs. vs ++ filter (news vs) (first_of_each rest)) (append-nil values) ∙ (ap (λ ys. values ++ ys) (sym (dropped_old values c (first_of_each rest) is)) ∙ h)

pub begun : (xs : List Candidate) → filter (news []) xs ≡ xs
begun [] = refl
begun (x ∷ xs) = ap (λ ys. x ∷ ys) (begun xs)

take-front : {X : Type 0} (n : ℕ) (xs ys : List X) → length xs ≡ n → take n (xs ++ ys) ≡ xs
take-front zero [] [] h = refl
take-front zero [] (y ∷ ys) h = refl
take-front zero (x ∷ xs) ys h = absurd (omega (arith, h))
take-front (suc n) [] ys h = absurd (omega (arith, h))
take-front (suc n) (x ∷ xs) ys h =
    ap (λ zs. x ∷ zs) (take-front n xs ys (omega (arith, h)))

take-whole : {X : Type 0} (n : ℕ) (xs : List X) → length xs ≤ n → take n xs ≡ xs
take-whole zero [] h = refl
take-whole zero (x ∷ xs) h = absurd (omega (arith, h))
take-whole (suc n) [] h = refl
take-whole (suc n) (x ∷ xs) h =
    ap (λ zs. x ∷ zs) (take-whole n xs (omega (arith, h)))

pub take_nothing : {X : Type 0} (n : ℕ) (xs : List X) → xs ≡ [] → take n xs ≡ []
take_nothing zero [] h = refl
take_nothing (suc n) [] h = refl
take_nothing zero (x ∷ xs) h = refl
take_nothing (suc n) (x ∷ xs) h = absurd (let e : length (x ∷ xs) ≡ 0 = ap length h in omega (arith, e))

pub take_none : {X : Type 0} (xs : List X) → take 0 xs ≡ []
take_none [] = refl
take_none (x ∷ xs) = refl

module _ (d : DataLists) (rows : List UserRow) (l : Lattice) (span : Span) where
  abbrev pub candidates : ℕ → List (List ℕ) → List Candidate
  candidates n paths = map (candidate_of d rows l.key l.entries span) (take n paths)

  -- what was gathered from the first paths, and what is still to come
  pub record IsGathered (values : List Candidate) (n : ℕ) (paths : List (List ℕ)) : Type 0 where
    pub few : length values ≤ MOST_VALUES
    pub made : values ++ filter (news values) (first_of_each (candidates n paths)) ≡ first_of_each (candidates MOST_PATHS (paths_in_order d l.entries span))

  pub IsGathered-none : IsGathered [] MOST_PATHS (paths_in_order d l.entries span)
  IsGathered-none = record { few = omega arith; made = begun (first_of_each (candidates MOST_PATHS (paths_in_order d l.entries span))) }

  -- enough values
  pub first_values-full : (values : List Candidate) (n : ℕ) (paths : List (List ℕ)) → IsGathered values n paths → length values ≡ MOST_VALUES → values ≡ first_values d rows l.key l.entries span
  unfolding first_values
  first_values-full values n paths is full =
      sym (take-front MOST_VALUES values (filter (news values) (first_of_each (candidates n paths))) full) ∙ ap (take MOST_VALUES) is.made

  -- no more paths
  pub first_values-all : (values : List Candidate) (n : ℕ) (paths : List (List ℕ)) → IsGathered values n paths → take n paths ≡ [] → values ≡ first_values d rows l.key l.entries span
  unfolding first_values firsts
  first_values-all values n paths is none =
      let e : values ++ filter (news values) (first_of_each (candidates n paths)) ≡ values ++ [] = ap (λ ps. values ++ filter (news values) (first_of_each (map (candidate_of d rows l.key l.entries span) ps))) none in
      let whole : values ≡ first_of_each (candidates MOST_PATHS (paths_in_order d l.entries span)) = sym (append-nil values) ∙ (sym e ∙ is.made) in
      sym (take-whole MOST_VALUES values is.few) ∙ ap (take MOST_VALUES) whole

  -- one path more
  pub IsGathered-more : (values more : List Candidate) (n : ℕ) (path : List ℕ) (rest : List (List ℕ)) → IsGathered values (suc n) (path ∷ rest) → length values < MOST_VALUES → more ≡ values ++ cond (is_new values (path_value d rows l.key l.entries path)) (candidate_of d rows l.key l.entries span path ∷ []) [] → IsGathered more n rest
  IsGathered-more values more n path rest is room added = record {
    few = (let e = ap length added in let f = length-append values (cond (is_new values (path_value d rows l.key l.entries path)) (candidate_of d rows l.key l.entries span path ∷ []) []) in let g = one (is_new values (path_value d rows l.key l.entries path)) in omega (arith, e, f, g, room));
    made = subst (λ vs. vs ++ filter (news vs) (first_of_each (candidates n rest)) ≡ first_of_each (candidates MOST_PATHS (paths_in_order d l.entries span))) (sym added) (gathered values (candidate_of d rows l.key l.entries span path) (candidates n rest) _ is.made);
  }
    where
      one : (b : Bool) → length (cond b (candidate_of d rows l.key l.entries span path ∷ []) []) ≤ 1
      one true = omega arith
      one false = omega arith

  -- what was found is the first path that was still to come
  pub found_path : (paths : List (List ℕ)) (f : Found) → Some f ≡ first_found d l.entries span paths → (path : List ℕ) × (paths ≡ path ∷ drop 1 paths) × (f ≡ found_of d l.entries span path)
  found_path [] f h = absurd (let clash : Some f ≡ None = h in cc)
  found_path (path ∷ paths) f h = (path, refl, (let e : Some f ≡ Some (found_of d l.entries span path) = h in cc))

  -- and where none was, none was left
  pub found_none : (paths : List (List ℕ)) → None ≡ first_found d l.entries span paths → paths ≡ []
  found_none [] h = refl
  found_none (path ∷ paths) h = absurd (let clash : None ≡ Some (found_of d l.entries span path) = h in cc)

  from_left : (s : Search) (path : List ℕ) → s.span ≡ span → Among path (still_to_come d l.entries s) → IsPathOver l.entries span path
  unfolding still_to_come
  from_left s path same h =
      from_paths_in_order d l.entries span path (subst (λ x. Among path (paths_in_order d l.entries x)) same (from_filter (λ p. list_any (ends_so p) s.queue) path (paths_in_order d l.entries s.span) h).0)

  inside_path : (from to : ℕ) (path : List ℕ) → IsPath l.entries from to path → All (λ o. o < length l.entries) path
  inside_path from to [] joined k e low = absurd (omega (arith, low))
  inside_path from to (o ∷ path) joined zero e low = joined.0
  inside_path from to (o ∷ path) joined (suc k) e low =
      inside_path (entry l.entries o).end to path joined.2 k e (omega (arith, low))

  -- the path that was found has ordinals of entries
  pub found_inside : (s : Search) (f : Found) → s.span ≡ span → Some f ≡ first_found d l.entries span (still_to_come d l.entries s) → All (λ o. o < length l.entries) f.path
  found_inside s f same h =
      let r = found_path (still_to_come d l.entries s) f h in
      let joined = from_left s r.0 same (subst (λ ps. Among r.0 ps) (sym r.1) (inl refl)) in
      subst (λ (x : Found). All (λ o. o < length l.entries) x.path) (sym r.2) (inside_path span.begin span.end r.0 joined)

  pub nothing_left : (paths : List (List ℕ)) (r : Option Found) → ((f : Found) → r ≡ Some f → ⊥) → r ≡ first_found d l.entries span paths → paths ≡ []
  nothing_left paths None denied h = found_none paths h
  nothing_left paths (Some f) denied h = absurd (denied f refl)

  pub added_is : (values new : List Candidate) (text path : List ℕ) (cost : ℤ) → new ≡ values ++ cond (is_new values text) (record { value = text; cost = Some cost } ∷ []) [] → text ≡ path_value d rows l.key l.entries path → cost ≡ path_cost d l.entries span path → new ≡ values ++ cond (is_new values (path_value d rows l.key l.entries path)) (candidate_of d rows l.key l.entries span path ∷ []) []
  added_is values new text path cost added text_is cost_is =
      added ∙ (ap (λ t. values ++ cond (is_new values t) (record { value = t; cost = Some cost } ∷ []) []) text_is ∙ ap (λ x. values ++ cond (is_new values (path_value d rows l.key l.entries path)) (record { value = path_value d rows l.key l.entries path; cost = Some x } ∷ []) []) cost_is)

  -- the cost of what was found fits
  pub found_within : AreDataSound d → IsWellFormed d l → IsSpan d l span → (s : Search) (f : Found) → s.span ≡ span → Some f ≡ first_found d l.entries span (still_to_come d l.entries s) → IsWithin (most_path (span.end - span.begin)) f.cost
  found_within sound well is s f same h =
      let r = found_path (still_to_come d l.entries s) f h in
      let joined = from_left s r.0 same (subst (λ ps. Among r.0 ps) (sym r.1) (inl refl)) in
      subst (λ (x : Found). IsWithin (most_path (span.end - span.begin)) x.cost) (sym r.2) (IsWithin-path_cost d l span r.0 sound well is joined)
