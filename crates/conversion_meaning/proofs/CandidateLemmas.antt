-- The values of a span: distinct, by costs that never fall, and few.
use Rattle.std.proofs.Common.{◌≡◌, sym, ap, ◌∙◌, subst, ℕ, zero, suc, true, false, not, inl, inr, List, [], ◌∷◌, ◌≤◌, length, map, take, arith}
use Rattle.std.specs.Prelude.{◌≢◌}
use Rattle.std.specs.List.{AllPairs}
use Rattle.std.proofs.lemmas.Cmp.{nat_list_eq_equiv}
use Rattle.std.proofs.lemmas.Int.{ints}
use Rattle.mz_base.specs.Data.{DataLists, is_text}
use Rattle.mz_base.specs.declared.lattice.Candidate.{Candidate}
use Rattle.mz_base.specs.declared.lattice.Entry.{Entry}
use Rattle.mz_base.specs.declared.lattice.Span.{Span}
use Rattle.mz_base.specs.declared.user.UserRow.{UserRow}
use Rattle.conversion_meaning.specs.Candidates.{CostsNoMore, candidate_of, differs_from, first_of_each, first_values}
use Rattle.conversion_meaning.specs.Firsts.{firsts}
use Rattle.conversion_meaning.specs.InOrder.{paths_in_order}
use Rattle.conversion_meaning.specs.Order.{IsBefore}
use Rattle.conversion_meaning.specs.Paths.{path_cost}
use Rattle.conversion_meaning.specs.declared.candidates.TheConstants.{MOST_PATHS, MOST_VALUES}
use Rattle.conversion_meaning.proofs.AllPathsLemmas.{Rises-filter}
use Rattle.conversion_meaning.proofs.InOrderLemmas.{Rises-paths_in_order}
use Rattle.conversion_meaning.proofs.LeastCosts.{IsBefore-le}
use Rattle.conversion_meaning.proofs.Lists.{AllPairs-from_rises, Among, Rises, from_filter, from_map}

from_take : {X : Type 0} (n : ℕ) (x : X) (xs : List X) → Among x (take n xs) → Among x xs
from_take zero x [] h = h
from_take zero x (y ∷ xs) h = absurd h
from_take (suc n) x [] h = h
from_take (suc n) x (y ∷ xs) (inl same) = inl same
from_take (suc n) x (y ∷ xs) (inr h) = inr (from_take n x xs h)

pub Rises-take : {X : Type 0} (R : X → X → Type 0) (n : ℕ) (xs : List X) → Rises R xs → Rises R (take n xs)
Rises-take R zero [] h = tt
Rises-take R zero (x ∷ xs) h = tt
Rises-take R (suc n) [] h = tt
Rises-take R (suc n) (x ∷ xs) h =
    (λ y k. h.0 y (from_take n y xs k), Rises-take R n xs h.1)

take-few : {X : Type 0} (n : ℕ) (xs : List X) → length (take n xs) ≤ n
take-few zero [] = omega arith
take-few zero (x ∷ xs) = omega arith
take-few (suc n) [] = omega arith
take-few (suc n) (x ∷ xs) = let rest = take-few n xs in omega (arith, rest)

-- what the elements of a `map` are related by
Rises-mapped : {X Y : Type 0} (R : X → X → Type 0) (S : Y → Y → Type 0) (f : X → Y) → ((x y : X) → R x y → S (f x) (f y)) → (xs : List X) → Rises R xs → Rises S (map f xs)
Rises-mapped R S f gives [] h = tt
Rises-mapped {X} {Y} R S f gives (x ∷ xs) h = (ahead, Rises-mapped R S f gives xs h.1)
  where
    ahead : (y : Y) → Among y (map f xs) → S (f x) y
    ahead y k =
        let r = from_map f y xs k in
        subst (λ z. S (f x) z) r.2 (gives x r.0 (h.0 r.0 r.1))

abbrev HaveOthers : Candidate → Candidate → Type 0
HaveOthers candidate later = candidate.value ≢ later.value

other_value : (x y : Candidate) → differs_from x y ≡ true → HaveOthers x y
other_value x y passes same =
    let one : is_text y.value y.value ≡ true = nat_list_eq_equiv.refl y.value in
    let e : not (is_text y.value y.value) ≡ true = subst (λ v. not (is_text v y.value) ≡ true) same passes in
    let clash : false ≡ true = ap not (sym one) ∙ e in
    cc

pub from_first_of_each : (x : Candidate) (xs : List Candidate) → Among x (first_of_each xs) → Among x xs
unfolding firsts
from_first_of_each x [] h = h
from_first_of_each x (y ∷ xs) (inl same) = inl same
from_first_of_each x (y ∷ xs) (inr h) =
    inr (from_first_of_each x xs (from_filter (differs_from y) x (first_of_each xs) h).0)

Rises-first_of_each : (R : Candidate → Candidate → Type 0) (xs : List Candidate) → Rises R xs → Rises R (first_of_each xs)
unfolding firsts
Rises-first_of_each R [] h = tt
Rises-first_of_each R (x ∷ xs) h =
    (λ y k. h.0 y (from_first_of_each y xs (from_filter (differs_from x) y (first_of_each xs) k).0), Rises-filter R (differs_from x) (first_of_each xs) (Rises-first_of_each R xs h.1))

first_of_each-once : (xs : List Candidate) → Rises HaveOthers (first_of_each xs)
unfolding firsts
first_of_each-once [] = tt
first_of_each-once (x ∷ xs) =
    (λ y k. other_value x y (from_filter (differs_from x) y (first_of_each xs) k).1, Rises-filter HaveOthers (differs_from x) (first_of_each xs) (first_of_each-once xs))

module _ (d : DataLists) (rows : List UserRow) (key : List ℕ) (es : List Entry) (span : Span) where
  abbrev candidates : List Candidate
  candidates = map (candidate_of d rows key es span) (take MOST_PATHS (paths_in_order d es span))

  pub Rises-values : Rises (λ (candidate later : Candidate). candidate.value ≢ later.value) (first_values d rows key es span)
  unfolding first_values
  Rises-values =
      Rises-take HaveOthers MOST_VALUES (first_of_each candidates) (first_of_each-once candidates)

  pub AllPairs-values : AllPairs (λ (candidate later : Candidate). candidate.value ≢ later.value) (first_values d rows key es span)
  AllPairs-values = AllPairs-from_rises HaveOthers (first_values d rows key es span) Rises-values

  costs_no_more : (p q : List ℕ) → IsBefore d es span p q → CostsNoMore (candidate_of d rows key es span p) (candidate_of d rows key es span q)
  costs_no_more p q before x y one other =
      let low = IsBefore-le d es span p q before in
      let e : path_cost d es span p ≡ x = cc in
      let f : path_cost d es span q ≡ y = cc in
      omega (arith, ints, low, e, f)

  pub AllPairs-costs : AllPairs CostsNoMore (first_values d rows key es span)
  unfolding first_values
  AllPairs-costs =
      AllPairs-from_rises CostsNoMore (take MOST_VALUES (first_of_each candidates)) (Rises-take CostsNoMore MOST_VALUES (first_of_each candidates) (Rises-first_of_each CostsNoMore candidates (Rises-mapped (IsBefore d es span) CostsNoMore (candidate_of d rows key es span) costs_no_more (take MOST_PATHS (paths_in_order d es span)) (Rises-take (IsBefore d es span) MOST_PATHS (paths_in_order d es span) (Rises-paths_in_order d es span)))))

  pub values-few : length (first_values d rows key es span) ≤ MOST_VALUES
  unfolding first_values
  values-few = take-few MOST_VALUES (first_of_each candidates)
