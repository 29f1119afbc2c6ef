use Rattle.std.proofs.Common.{◌≡◌, ◌≢◌, ℕ, true, false, eqb, List, [], ◌∷◌, Option, Some, None, MatchOption, Bor, get_or, drop, refl, ap, arith, lit<}
use Rattle.std.proofs.lemmas.Bool.{false_from_ne_true}
use Rattle.std.proofs.lemmas.Bool.Decides.{nat_tests}
use Rattle.std.proofs.lemmas.Str.Pattern.{strip_prefix_char}
use Rattle.mz_base.proofs.numbers.after_minus.Goals as goal

first_is : (b c : ℕ) (bs : List ℕ) → ((rest : List ℕ) → (b ∷ bs) ≢ (c ∷ rest)) → eqb b c ≡ false
first_is b c bs other =
    false_from_ne_true _ (λ is. other bs (let same : b ≡ c = grind (arith, nat_tests) in ap (λ h. h ∷ bs) same))

minus_cases : (bs : List ℕ) (r : Option (Bor (List ℕ))) → MatchOption r ((rest : List ℕ) → bs ≢ 45 ∷ rest) (λ (x : Bor (List ℕ)). bs ≡ 45 ∷ x.now) → MatchOption r (eqb (get_or bs 0 0) 45 ≡ false) (λ (x : Bor (List ℕ)). (eqb (get_or bs 0 0) 45 ≡ true) × (x.now ≡ drop 1 bs))
minus_cases [] None other = refl
minus_cases (b ∷ bs) None other = first_is b 45 bs other
minus_cases bs (Some x) is = (rw is refl, rw is refl)

pub returns : goal.returns
returns c = minus_cases c.args.text.now _ (strip_prefix_char 45 c.args.text.now _ c.strip_prefix.ensures.cases (lit< tt))
