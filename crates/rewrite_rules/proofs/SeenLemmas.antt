-- A value more in a list, and in the set of its values.
use Rattle.std.proofs.Common.{◌≡◌, refl, sym, ap, ◌∙◌, subst, ℕ, Bool, true, false, not, List, [], ◌∷◌, ◌++◌, Vec, Global}
use Rattle.std.specs.Prelude.{◌||◌}
use Rattle.std.specs.Bool.{MatchBool}
use Rattle.std.specs.List.{list_any}
use Rattle.std.specs.List.Sorted.{IsPermutation}
use Rattle.std.specs.Str.{bytes_eq}
use Rattle.std.proofs.lemmas.Cmp.{nat_list_eq_equiv}
use Rattle.std.proofs.lemmas.List.Folds.{list_any-append}
use Rattle.std.proofs.lemmas.List.Sorted.{list_any-IsPermutation}
use Rattle.std.proofs.lemmas.Slice.Eq.{bytes_eq-Decides}
use Rattle.mz_base.specs.declared.lattice.Candidate.{Candidate}
use Rattle.conversion_meaning.specs.Rules.{is_value}
use Rattle.rewrite_rules.specs.Seen.{AreValues}

or-false : (b : Bool) → (b || false) ≡ b
or-false true = refl
or-false false = refl

or-swap : (a b : Bool) → (a || b) ≡ (b || a)
or-swap true true = refl
or-swap true false = refl
or-swap false true = refl
or-swap false false = refl

not-true : (b : Bool) → false ≡ not b → b ≡ true
not-true true is = refl
not-true false is = is

-- the set has this value
abbrev has : List ℕ → List (Vec ℕ Global) → Bool
has value keys = list_any (λ (key : Vec ℕ Global). bytes_eq value key.items) keys

one-more : (value : List ℕ) (list : List Candidate) (candidate : Candidate) → list_any (is_value value) (list ++ candidate ∷ []) ≡ (list_any (is_value value) list || is_value value candidate)
one-more value list candidate =
    list_any-append (is_value value) list (candidate ∷ []) ∙ ap (λ b. list_any (is_value value) list || b) (or-false (is_value value candidate))

-- the value is a new one
pub AreValues-new : (keys moved : List (Vec ℕ Global)) (list : List Candidate) (key : Vec ℕ Global) (candidate : Candidate) → candidate.value ≡ key.items → IsPermutation (key ∷ keys) moved → AreValues keys list → AreValues moved (list ++ candidate ∷ [])
AreValues-new keys moved list key candidate is are_moved are = λ value.
    let its : bytes_eq value key.items ≡ is_value value candidate = ap (bytes_eq value) (sym is) ∙ nat_list_eq_equiv.symm value candidate.value in
    sym (list_any-IsPermutation (λ (k : Vec ℕ Global). bytes_eq value k.items) (key ∷ keys) moved are_moved)
    ∙ (ap (λ b. b || has value keys) its
    ∙ (ap (λ b. is_value value candidate || b) (are value)
    ∙ (or-swap (is_value value candidate) (list_any (is_value value) list)
    ∙ sym (one-more value list candidate))))

-- the list has it already
AreValues-known : (keys : List (Vec ℕ Global)) (list : List Candidate) (key : Vec ℕ Global) (candidate : Candidate) → candidate.value ≡ key.items → has key.items keys ≡ true → AreValues keys list → AreValues keys (list ++ candidate ∷ [])
AreValues-known keys list key candidate is known are = λ value.
    are value ∙ (by_test value (is_value value candidate) refl ∙ sym (one-more value list candidate))
  where
    found : (value : List ℕ) → is_value value candidate ≡ true → list_any (is_value value) list ≡ true
    found value same =
        let its : key.items ≡ value = sym is ∙ (bytes_eq-Decides candidate.value value).0 same in
        sym (are value) ∙ subst (λ v. has v keys ≡ true) its known

    by_test : (value : List ℕ) (b : Bool) → is_value value candidate ≡ b → list_any (is_value value) list ≡ (list_any (is_value value) list || is_value value candidate)
    by_test value true same =
        found value same ∙ (sym (ap (λ b. b || is_value value candidate) (found value same)))
    by_test value false other =
        sym (or-false (list_any (is_value value) list)) ∙ ap (λ b. list_any (is_value value) list || b) (sym other)

-- what became of the set says which
pub AreValues-put : (keys moved : List (Vec ℕ Global)) (list : List Candidate) (key : Vec ℕ Global) (candidate : Candidate) (added : Bool) → candidate.value ≡ key.items → added ≡ not (has key.items keys) → MatchBool added (IsPermutation (key ∷ keys) moved) (moved ≡ keys) → AreValues keys list → AreValues moved (list ++ candidate ∷ [])
AreValues-put keys moved list key candidate true is new put are = AreValues-new keys moved list key candidate is put are
AreValues-put keys moved list key candidate false is new put are =
    subst (λ ks. AreValues ks (list ++ candidate ∷ [])) (sym put) (AreValues-known keys list key candidate is (not-true (has key.items keys) new) are)
