-- 'Before' is a strict total order of paths.
use Rattle.std.proofs.Common.{◌≡◌, refl, sym, ap, ◌∙◌, ℕ, ◌⊎◌, inl, inr, List}
use Rattle.std.specs.Prelude.{◌≢◌, reverse}
use Rattle.std.specs.declared.cmp.Ordering.{Ordering}
use Rattle.std.specs.declared.cmp.Ordering.TheVariants.{Less, Equal, Greater}
use Rattle.std.specs.Cmp.Lexicographic.{slice_cmp}
use Rattle.std.specs.Ordering.{nat_cmp, int_cmp, ordering_reverse}
use Rattle.std.proofs.lemmas.Cmp.{int_ranked, by_ranked, nat_list_cmp_total}
use Rattle.std.proofs.lemmas.Int.{ints}
use Rattle.std.proofs.lemmas.List.{reverse-reverse}
use Rattle.std.proofs.lemmas.Map.Lookups.{exact_bytes}
use Rattle.std.proofs.Common.{arith}
use Rattle.mz_base.specs.Data.{DataLists}
use Rattle.mz_base.specs.declared.lattice.Entry.{Entry}
use Rattle.mz_base.specs.declared.lattice.Span.{Span}
use Rattle.conversion_meaning.specs.Order.{IsBefore, IsLowerFromLast}
use Rattle.conversion_meaning.specs.Paths.{path_cost}

-- two lists that compare as equal are one
pub same_from_last : (p q : List ℕ) → slice_cmp nat_cmp (reverse p) (reverse q) ≡ Equal → p ≡ q
same_from_last p q tied =
    sym (reverse-reverse p) ∙ ap reverse (exact_bytes (reverse p) (reverse q) tied) ∙ reverse-reverse q

pub cases_by_order : (p q : List ℕ) (o : Ordering) → slice_cmp nat_cmp (reverse p) (reverse q) ≡ o → (p ≡ q) ⊎ (IsLowerFromLast p q ⊎ IsLowerFromLast q p)
cases_by_order p q Less is = inr (inl is)
cases_by_order p q Equal is = inl (same_from_last p q is)
cases_by_order p q Greater is =
    inr (inr (nat_list_cmp_total.antisymm (reverse q) (reverse p) ∙ ap ordering_reverse is))

-- two lists are one, or one is lower from the last
pub lower_cases : (p q : List ℕ) → (p ≡ q) ⊎ (IsLowerFromLast p q ⊎ IsLowerFromLast q p)
lower_cases p q = cases_by_order p q (slice_cmp nat_cmp (reverse p) (reverse q)) refl

pub IsLowerFromLast-trans : (p q r : List ℕ) → IsLowerFromLast p q → IsLowerFromLast q r → IsLowerFromLast p r
IsLowerFromLast-trans p q r = nat_list_cmp_total.trans (reverse p) (reverse q) (reverse r)

-- it is not lower both ways
pub not_lower_back : (p q : List ℕ) → IsLowerFromLast p q → ¬ (IsLowerFromLast q p)
not_lower_back p q one other =
    let back : slice_cmp nat_cmp (reverse p) (reverse q) ≡ Greater = nat_list_cmp_total.antisymm (reverse p) (reverse q) ∙ ap ordering_reverse other in
    let clash : Less ≡ Greater = sym one ∙ back in
    cc

module _ (d : DataLists) (es : List Entry) (span : Span) where
  pub IsBefore-trans : (p q r : List ℕ) → IsBefore d es span p q → IsBefore d es span q r → IsBefore d es span p r
  IsBefore-trans p q r (inl a) (inl b) = inl (omega (arith, ints))
  IsBefore-trans p q r (inl a) (inr b) = inl (omega (arith, ints, b.0))
  IsBefore-trans p q r (inr a) (inl b) = inl (omega (arith, ints, a.0))
  IsBefore-trans p q r (inr a) (inr b) = inr (a.0 ∙ b.0, IsLowerFromLast-trans p q r a.1 b.1)

  pub not_before_back : (p q : List ℕ) → IsBefore d es span p q → ¬ (IsBefore d es span q p)
  not_before_back p q (inl a) (inl b) = omega (arith, ints)
  not_before_back p q (inl a) (inr b) = omega (arith, ints, b.0)
  not_before_back p q (inr a) (inl b) = omega (arith, ints, a.0)
  not_before_back p q (inr a) (inr b) = not_lower_back p q a.1 b.1

  -- two paths are one, or one is before the other
  pub order_cases : (p q : List ℕ) → (p ≡ q) ⊎ (IsBefore d es span p q ⊎ IsBefore d es span q p)
  order_cases p q =
      by_ranked _ _ _ (int_cmp (path_cost d es span p) (path_cost d es span q)) (int_ranked (path_cost d es span p) (path_cost d es span q) _ refl) (λ _ less. inr (inl (inl less))) (λ _ same. elim (lower_cases p q) [ inl one ↦ inl one | inr (inl a) ↦ inr (inl (inr (same, a))) | inr (inr b) ↦ inr (inr (inr (sym same, b))) ]) (λ _ more. inr (inr (inl more)))

  pub one_is_before : (p q : List ℕ) → p ≢ q → IsBefore d es span p q ⊎ IsBefore d es span q p
  one_is_before p q differ =
      elim (order_cases p q) [ inl same ↦ absurd (differ same) | inr cases ↦ cases ]
