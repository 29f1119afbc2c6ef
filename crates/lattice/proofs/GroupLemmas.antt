-- Groups that are added in turn.
use Rattle.std.proofs.Common.{◌≡◌, ap, ◌∙◌, List, ◌++◌, append_assoc}

-- the second group, spelt otherwise
pub two_groups : {X : Type 0} (out a b spelt one two : List X) → one ≡ out ++ a → two ≡ one ++ spelt → spelt ≡ b → two ≡ out ++ (a ++ b)
two_groups out a b spelt one two first second is =
    second ∙ ap (λ xs. xs ++ spelt) first ∙ ap (λ xs. (out ++ a) ++ xs) is ∙ append_assoc out a b

-- two pairs of groups
pub four_groups : {X : Type 0} (out a b c d two four : List X) → two ≡ out ++ (a ++ b) → four ≡ two ++ (c ++ d) → four ≡ out ++ (a ++ (b ++ (c ++ d)))
four_groups out a b c d two four first second =
    second ∙ ap (λ xs. xs ++ (c ++ d)) first ∙ regroup out a b (c ++ d)
  where
    regroup : {X : Type 0} (out a b rest : List X) → (out ++ (a ++ b)) ++ rest ≡ out ++ (a ++ (b ++ rest))
    regroup out a b rest = simp append_assoc
