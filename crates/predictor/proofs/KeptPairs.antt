-- The pairs that are kept one after another are the first of each value.
use Rattle.std.proofs.Common.{◌≡◌, refl, sym, ap, ◌∙◌, subst, ℕ, ◌+◌, ◌≤◌, Bool, true, false, cond, List, [], ◌∷◌, ◌++◌, length, take, append-nil, append_assoc, arith, inl, inr}
use Rattle.std.specs.Prelude.{◌&&◌, ◌||◌, not, nat_eq, nat_lt}
use Rattle.std.specs.List.{fold, starts_with}
use Rattle.std.proofs.lemmas.Bool.{cases_lt, le-ltb, lt-ltb, not-false}
use Rattle.std.proofs.lemmas.List.{length_push, length-take-le, take-append-le, take_all}
use Rattle.std.proofs.lemmas.List.Sums.{fold-append}
use Rattle.std.proofs.lemmas.Slice.Eq.{bytes_eq-Decides}
use Rattle.mz_base.specs.Data.{is_text}
use Rattle.mz_base.specs.declared.lattice.Pair.{Pair}
use Rattle.conversion_meaning.specs.Firsts.{firsts}
use Rattle.conversion_meaning.specs.Suggestions.{means_other, recalled}
use Rattle.conversion_meaning.specs.declared.suggestions.TheConstants.{MOST_SUGGESTIONS}
use Rattle.predictor.specs.Pairs.{distinct, has_value, with_pair, with_recalled}
use Rattle.predictor.proofs.FirstLemmas.{all_differ, firsts-push}

-- what has the value of a pair differs from what that pair differs from
alike : (first other item : Pair) → means_other first other ≡ false → means_other first item ≡ true → means_other other item ≡ true
alike first other item same apart =
    let one : other.value ≡ first.value = (bytes_eq-Decides other.value first.value).0 (not-false (is_text first.value other.value) same) in
    subst (λ value. not (is_text value item.value) ≡ true) (sym one) apart

-- a value is new where all pairs mean another
new-value : (pairs : List Pair) (pair : Pair) → not (has_value pairs pair.value) ≡ all_differ means_other pairs pair
new-value [] pair = refl
new-value (other ∷ pairs) pair =
    by_test (is_text other.value pair.value) (has_value pairs pair.value) (all_differ means_other pairs pair) (new-value pairs pair)
  where
    by_test : (b any all : Bool) → not any ≡ all → not (b || any) ≡ (not b && all)
    by_test true any all same = refl
    by_test false any all same = same

kept : (b : Bool) (pairs : List Pair) (pair : Pair) → cond b (pairs ++ pair ∷ []) pairs ≡ pairs ++ cond b (pair ∷ []) []
kept true pairs pair = refl
kept false pairs pair = sym (append-nil pairs)

length-kept : (b : Bool) (pairs : List Pair) (pair : Pair) → length (pairs ++ cond b (pair ∷ []) []) ≤ length pairs + 1
length-kept true pairs pair = omega (arith, length_push pairs pair)
length-kept false pairs pair = let none = ap (λ xs. length xs) (append-nil pairs) in omega (arith, none)

-- of a list of first ones and a further one
keep-one : (n : ℕ) (first : List Pair) (pair : Pair) → cond (nat_lt (length (take n first)) n && not (has_value (take n first) pair.value)) (take n first ++ pair ∷ []) (take n first) ≡ take n (first ++ cond (all_differ means_other first pair) (pair ∷ []) [])
keep-one n first pair =
    elim (cases_lt (length first) n) [
      | inl few ↦
          let whole : take n first ≡ first = take_all n first (omega arith) in
          let room : nat_lt (length first) n ≡ true = lt-ltb (length first) n few in
          let long = length-kept (all_differ means_other first pair) first pair in
          ap (λ kept. cond (nat_lt (length kept) n && not (has_value kept pair.value)) (kept ++ pair ∷ []) kept) whole
          ∙ (ap (λ b. cond (b && not (has_value first pair.value)) (first ++ pair ∷ []) first) room
          ∙ (ap (λ b. cond b (first ++ pair ∷ []) first) (new-value first pair)
          ∙ (kept (all_differ means_other first pair) first pair
          ∙ sym (take_all n (first ++ cond (all_differ means_other first pair) (pair ∷ []) []) (omega (arith, long))))))
      | inr full ↦
          let long : length (take n first) ≡ n = length-take-le n first full in
          let room : nat_lt (length (take n first)) n ≡ false = le-ltb (length (take n first)) n (omega arith) in
          ap (λ b. cond (b && not (has_value (take n first) pair.value)) (take n first ++ pair ∷ []) (take n first)) room
          ∙ sym (take-append-le n first (cond (all_differ means_other first pair) (pair ∷ []) []) full)
    ]

with_pair-distinct : (seen : List Pair) (pair : Pair) → with_pair (distinct seen) pair ≡ distinct (seen ++ pair ∷ [])
with_pair-distinct seen pair =
    keep-one MOST_SUGGESTIONS (firsts means_other seen) pair ∙ sym (ap (λ first. take MOST_SUGGESTIONS first) (firsts-push means_other alike seen pair))

-- pairs that go in one after another
pub fold-distinct : (pairs seen : List Pair) → fold with_pair (distinct seen) pairs ≡ distinct (seen ++ pairs)
fold-distinct [] seen = ap (λ all. distinct all) (sym (append-nil seen))
fold-distinct (pair ∷ pairs) seen =
    ap (λ kept. fold with_pair kept pairs) (with_pair-distinct seen pair)
    ∙ (fold-distinct pairs (seen ++ pair ∷ []) ∙ ap (λ all. distinct all) (append_assoc seen (pair ∷ []) pairs))

-- the pairs of the history go in that are recalled
fold-recalled : (base : List ℕ) (history pairs : List Pair) → fold (with_recalled base) pairs history ≡ fold with_pair pairs (recalled history base)
fold-recalled base [] pairs = refl
fold-recalled base (pair ∷ history) pairs =
    by_test (starts_with nat_eq pair.key base) (fold-recalled base history (with_pair pairs pair)) (fold-recalled base history pairs)
  where
    by_test : (b : Bool) → fold (with_recalled base) (with_pair pairs pair) history ≡ fold with_pair (with_pair pairs pair) (recalled history base) → fold (with_recalled base) pairs history ≡ fold with_pair pairs (recalled history base) → fold (with_recalled base) (cond b (with_pair pairs pair) pairs) history ≡ fold with_pair pairs (cond b (pair ∷ recalled history base) (recalled history base))
    by_test true taken not = taken
    by_test false taken not = not

-- first the history, and then the words
both-distinct : (base : List ℕ) (history words : List Pair) → fold with_pair (fold (with_recalled base) [] history) words ≡ distinct (recalled history base ++ words)
unfolding firsts
both-distinct base history words =
    ap (λ kept. fold with_pair kept words) (fold-recalled base history [])
    ∙ (sym (fold-append with_pair [] (recalled history base) words) ∙ fold-distinct (recalled history base ++ words) [])

pub kept-distinct : (base : List ℕ) (history words none some all : List Pair) → all ≡ fold with_pair some words → some ≡ fold (with_recalled base) none history → none ≡ [] → all ≡ distinct (recalled history base ++ words)
kept-distinct base history words none some all then_is first_is none_is =
    then_is ∙ (ap (λ kept. fold with_pair kept words) (first_is ∙ ap (λ kept. fold (with_recalled base) kept history) none_is) ∙ both-distinct base history words)
