-- What rule 1 moves, and that distinct values stay distinct.
use Rattle.std.proofs.Common.{◌≡◌, refl, sym, ap, ◌∙◌, ℕ, Bool, true, false, cond, not, inl, inr, ◌⊎◌, List, [], ◌∷◌, ◌++◌, Option, Some, None}
use Rattle.std.specs.Prelude.{◌≢◌, filter}
use Rattle.std.proofs.lemmas.Slice.Eq.{bytes_eq-Decides}
use Rattle.mz_base.specs.declared.lattice.Candidate.{Candidate}
use Rattle.mz_base.specs.declared.lattice.Pair.{Pair}
use Rattle.conversion_meaning.specs.Rules.{chosen_before, is_value, put_first, rewritten}
use Rattle.conversion_meaning.proofs.InOrderLemmas.{Rises-from_pairs}
use Rattle.conversion_meaning.proofs.Lists.{AllPairs-from_rises, Among, Rises}
use Rattle.conversion_meaning.proofs.RuleLemmas.{AreOnce-rewritten_by}
use Rattle.rewrite_rules.specs.Laws.{ChosenIsMoved, DistinctStay, IsMoved}

abbrev Other : Candidate → Candidate → Type 0
Other candidate later = candidate.value ≢ later.value

module _ (value : List ℕ) where
  abbrev is : Candidate → Bool
  is candidate = is_value value candidate

  abbrev is_not : Candidate → Bool
  is_not candidate = not (is_value value candidate)

  -- where no candidate has the value
  none-has : (list : List Candidate) → ((candidate : Candidate) → Among candidate list → is candidate ≡ false) → (filter is list ≡ []) × (filter is_not list ≡ list)
  none-has [] none = (refl, refl)
  none-has (candidate ∷ list) none =
      let rest = none-has list (λ other h. none other (inr h)) in
      let out = none candidate (inl refl) in
      (ap (λ b. cond b (candidate ∷ filter is list) (filter is list)) out ∙ rest.0, ap (λ b. cond (not b) (candidate ∷ filter is_not list) (filter is_not list)) out ∙ ap (λ (xs : List Candidate). candidate ∷ xs) rest.1)

  -- all later ones have other values than one that has it
  others-after : (candidate : Candidate) (list : List Candidate) → is candidate ≡ true → ((other : Candidate) → Among other list → Other candidate other) → (other : Candidate) → Among other list → is other ≡ false
  others-after candidate list has apart other h = by_test (is other) refl
    where
      by_test : (b : Bool) → is other ≡ b → is other ≡ false
      by_test false out = out
      by_test true also =
          let one : candidate.value ≡ value = (bytes_eq-Decides candidate.value value).0 has in
          let two : other.value ≡ value = (bytes_eq-Decides other.value value).0 also in
          absurd (apart other h (one ∙ sym two))

  -- one candidate has the value
  record Found (list : List Candidate) : Type 0 where
    before : List Candidate
    candidate : Candidate
    after : List Candidate
    was : list ≡ before ++ candidate ∷ after
    chosen : filter is list ≡ candidate ∷ []
    others : filter is_not list ≡ before ++ after

  -- none has it, or one
  abbrev IsSplit : List Candidate → Type 0
  IsSplit list = ((filter is list ≡ []) × (filter is_not list ≡ list)) ⊎ Found list

  Found-first : (candidate : Candidate) (list : List Candidate) → is candidate ≡ true → ((other : Candidate) → Among other list → Other candidate other) → Found (candidate ∷ list)
  Found-first candidate list has apart =
      let none = none-has list (others-after candidate list has apart) in
      record {
        before = [];
        candidate = candidate;
        after = list;
        was = refl;
        chosen = ap (λ b. cond b (candidate ∷ filter is list) (filter is list)) has ∙ ap (λ (xs : List Candidate). candidate ∷ xs) none.0;
        others = ap (λ b. cond (not b) (candidate ∷ filter is_not list) (filter is_not list)) has ∙ none.1;
      }

  Found-later : (candidate : Candidate) (list : List Candidate) → is candidate ≡ false → Found list → Found (candidate ∷ list)
  Found-later candidate list out found = record {
    before = candidate ∷ found.before;
    candidate = found.candidate;
    after = found.after;
    was = ap (λ (xs : List Candidate). candidate ∷ xs) found.was;
    chosen = ap (λ b. cond b (candidate ∷ filter is list) (filter is list)) out ∙ found.chosen;
    others = ap (λ b. cond (not b) (candidate ∷ filter is_not list) (filter is_not list)) out ∙ ap (λ (xs : List Candidate). candidate ∷ xs) found.others;
  }

  split : (list : List Candidate) → Rises Other list → IsSplit list
  split [] apart = inl (refl, refl)
  split (candidate ∷ list) apart = by_test (is candidate) refl (split list apart.1)
    where
      later : is candidate ≡ false → IsSplit list → IsSplit (candidate ∷ list)
      later out (inl none) =
          inl (ap (λ b. cond b (candidate ∷ filter is list) (filter is list)) out ∙ none.0, ap (λ b. cond (not b) (candidate ∷ filter is_not list) (filter is_not list)) out ∙ ap (λ (xs : List Candidate). candidate ∷ xs) none.1)
      later out (inr found) = inr (Found-later candidate list out found)

      by_test : (b : Bool) → is candidate ≡ b → IsSplit list → IsSplit (candidate ∷ list)
      by_test true has rest = inr (Found-first candidate list has apart.0)
      by_test false out rest = later out rest

  put-first : (list : List Candidate) → IsSplit list → ((filter is list ++ filter is_not list) ≡ list) ⊎ IsMoved list (filter is list ++ filter is_not list)
  put-first list (inl none) = inl (ap (λ (xs : List Candidate). xs ++ filter is_not list) none.0 ∙ none.1)
  put-first list (inr found) =
      inr (record { before = found.before; candidate = found.candidate; after = found.after; was = found.was; moved = ap (λ (xs : List Candidate). xs ++ filter is_not list) found.chosen ∙ ap (λ (xs : List Candidate). found.candidate ∷ xs) found.others })

pub chosen-moved : ChosenIsMoved
unfolding rewritten
chosen-moved ask list distinct = by_choice (chosen_before ask list)
  where
    by_choice : (found : Option Pair) → (put_first found list ≡ list) ⊎ IsMoved list (put_first found list)
    by_choice None = inl refl
    by_choice (Some pair) = put-first pair.value list (split pair.value list (Rises-from_pairs Other list distinct))

pub distinct-stay : DistinctStay
distinct-stay rule ask list distinct =
    AllPairs-from_rises Other (rewritten rule ask list) (AreOnce-rewritten_by (rule ∷ []) ask list (Rises-from_pairs Other list distinct))
