-- The places of rows in the order of their readings.
use Rattle.std.proofs.Common.{◌≡◌, ℕ, true, false, List, [], take, drop, refl, sym, ◌∙◌, arith}
use Rattle.std.specs.Cmp.Lexicographic.{slice_cmp}
use Rattle.std.specs.List.Sorted.{IsPartitionPoint, IsSortedBy}
use Rattle.std.specs.Ordering.{is_le, is_lt, nat_cmp}
use Rattle.std.specs.declared.cmp.Ordering.{Ordering}
use Rattle.std.proofs.lemmas.Cmp.{nat_list_cmp_total}
use Rattle.std.proofs.lemmas.List.Elements.{filter_agree}
use Rattle.std.proofs.lemmas.List.Sorted.{searchable_from_sorted}
use Rattle.std.proofs.lemmas.Map.Text.{is_eq-slice_cmp}
use Rattle.mz_base.specs.Data.{rows_with}
use Rattle.dict_index.specs.Order.{IsIndex, comes_before, text_at}
use Rattle.dict_index.proofs.IndexRows.{rows-of_text}
use Rattle.dict_index.proofs.Standing.{Rises, tied-between}

pub no_places : IsIndex [] []
no_places = record { sorted = λ k d low high. absurd (omega (arith, high)); stable = λ place. refl }

module _ (texts : List (List ℕ)) (text : List ℕ) where
  -- how the text at a place stands to this one
  abbrev pub stands : ℕ → Ordering
  stands place = slice_cmp nat_cmp (text_at texts place) text

  pub stands-rises : (places : List ℕ) → IsSortedBy (comes_before texts) places → Rises stands places
  stands-rises places sorted =
      searchable_from_sorted nat_list_cmp_total (text_at texts) places text (λ k d low high. sorted k d low high)

  -- between the two points stand the places of the text
  pub found-rows : (places : List ℕ) → IsIndex texts places → (i j : ℕ) → IsPartitionPoint (λ x. is_lt (stands x) ≡ true) (λ x. is_lt (stands x) ≡ false) places i → IsPartitionPoint (λ x. is_le (stands x) ≡ true) (λ x. is_le (stands x) ≡ false) (drop i places) j → take j (drop i places) ≡ rows_with texts text
  found-rows places index i j low high =
      sym (tied-between stands places i j low high) ∙ (filter_agree _ _ (λ place. is_eq-slice_cmp (text_at texts place) text) places ∙ rows-of_text texts places index text)
