-- A key is that of one of the names, or of a single character.
use Rattle.std.proofs.Common.{◌≡◌, ◌⊎◌, ℕ, Bool, true, false, cond, List, [], ◌∷◌, Some, None, unwrap_or, refl, sym, ap, ◌∙◌, bytes_eq, inl, inr}
use Rattle.std.specs.Cmp.Lexicographic.{same_text}
use Rattle.keys.specs.Names.{IsAmong, IsSingle, key_among, key_of, names}
use Rattle.keys.specs.declared.key.Key.{Key}

by_cases : {A : Type 0} (b : Bool) → (b ≡ true → A) → (b ≡ false → A) → A
by_cases true holds fails = holds refl
by_cases false holds fails = fails refl

key_among-is : (rows : List (List ℕ × Key)) (name : List ℕ) (k : Key) → key_among rows name ≡ Some k → IsAmong rows name k
key_among-is [] name k told = absurd (let h : None ≡ Some k = told in cc)
key_among-is (named ∷ rows) name k told =
    by_cases (bytes_eq name named.0)
    (λ here. inl (sym (same_text name named.0 (sym here)), ap (λ found. unwrap_or found k) (sym (ap (λ b. cond b (Some named.1) (key_among rows name)) here) ∙ told)))
    (λ not_here. inr (key_among-is rows name k (sym (ap (λ b. cond b (Some named.1) (key_among rows name)) not_here) ∙ told)))

pub key_of-is : (name : List ℕ) (k : Key) → key_of name ≡ Some k → IsAmong names name k ⊎ IsSingle name k
unfolding key_of
key_of-is [] k told = inl (key_among-is names [] k told)
key_of-is (c ∷ []) k told = inr (c, refl, told)
key_of-is (c ∷ d ∷ rest) k told = inl (key_among-is names (c ∷ d ∷ rest) k told)
