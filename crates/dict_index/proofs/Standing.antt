-- Texts in order: those that are one text when cut after some characters stand together.
use Rattle.std.proofs.Common.{◌≡◌, ℕ, zero, suc, ◌+◌, ◌<◌, ◌≤◌, true, false, List, [], ◌∷◌, ◌++◌, length, get_or, take, drop, refl, sym, ap, ◌∙◌, arith, append-nil, length-take, length-drop, take-append-drop, get_or-take, get_or-drop}
use Rattle.std.specs.Cmp.Lexicographic.{slice_cmp}
use Rattle.std.specs.List.{All, filter}
use Rattle.std.specs.List.Sorted.{IsNonDecreasingBy, IsPartitionPoint, IsPartitionedBy, IsSortedBy}
use Rattle.std.specs.Ordering.{is_eq, is_le, is_lt, nat_cmp, ordering_index, ordering_then}
use Rattle.std.specs.declared.cmp.Ordering.{Ordering}
use Rattle.std.specs.declared.cmp.Ordering.TheVariants.{Less, Equal, Greater}
use Rattle.std.proofs.lemmas.Cmp.{nat_list_cmp_total, nat_list_eq_equiv}
use Rattle.std.proofs.lemmas.List.Elements.{filter-append, filter_agree}
use Rattle.std.proofs.lemmas.List.Sorted.{searchable_from_sorted}
use Rattle.std.proofs.lemmas.Map.Text.{is_eq-slice_cmp}
use Rattle.dict_index.specs.Order.{comes_before, standing_at, text_at}
use Rattle.dict_index.proofs.Filters.{filter-all, filter-none}

then-up : (o a b : Ordering) → is_lt (ordering_then o a) ≡ false → (is_lt a ≡ false → is_lt b ≡ false) → is_lt (ordering_then o b) ≡ false
then-up Less a b up rest = up
then-up Equal a b up rest = rest up
then-up Greater a b up rest = refl

-- texts that are cut after so many characters stand in the order of the texts
pub front-up : (n : ℕ) (xs ys : List ℕ) → is_lt (slice_cmp nat_cmp xs ys) ≡ false → is_lt (slice_cmp nat_cmp (take n xs) (take n ys)) ≡ false
front-up zero xs ys up = refl
front-up (suc n) [] [] up = refl
front-up (suc n) [] (y ∷ ys) up = up
front-up (suc n) (x ∷ xs) [] up = refl
front-up (suc n) (x ∷ xs) (y ∷ ys) up =
    then-up (nat_cmp x y) (slice_cmp nat_cmp xs ys) (slice_cmp nat_cmp (take n xs) (take n ys)) up (front-up n xs ys)

lt-down : (o u : Ordering) → ordering_index o ≤ ordering_index u → is_lt u ≡ true → is_lt o ≡ true
lt-down Less u less up = refl
lt-down Equal Less less up = absurd (omega (arith, less))
lt-down Equal Equal less up = up
lt-down Equal Greater less up = up
lt-down Greater Less less up = absurd (omega (arith, less))
lt-down Greater Equal less up = up
lt-down Greater Greater less up = up

le-down : (o u : Ordering) → ordering_index o ≤ ordering_index u → is_le u ≡ true → is_le o ≡ true
le-down Less u less up = refl
le-down Equal u less up = refl
le-down Greater Less less up = absurd (omega (arith, less))
le-down Greater Equal less up = absurd (omega (arith, less))
le-down Greater Greater less up = up

lt-apart : (o : Ordering) → is_lt o ≡ true → is_eq o ≡ false
lt-apart Less is = refl
lt-apart Equal is = sym is
lt-apart Greater is = refl

gt-apart : (o : Ordering) → is_le o ≡ false → is_eq o ≡ false
gt-apart Less is = refl
gt-apart Equal is = is
gt-apart Greater is = refl

between-eq : (o : Ordering) → is_lt o ≡ false → is_le o ≡ true → is_eq o ≡ true
between-eq Less not is = sym not
between-eq Equal not is = refl
between-eq Greater not is = is

module _ {X : Type 0} (order : X → Ordering) (xs : List X) where
  abbrev pub Rises : Type 0
  Rises = IsNonDecreasingBy (λ x. ordering_index (order x)) xs

  -- the searches' tests hold at the front
  pub IsPartitionedBy-lt : Rises → IsPartitionedBy (λ x. is_lt (order x)) xs
  IsPartitionedBy-lt rises i j d ordered inside = lt-down _ _ (rises i j d ordered inside)

  pub IsPartitionedBy-le : Rises → IsPartitionedBy (λ x. is_le (order x)) xs
  IsPartitionedBy-le rises i j d ordered inside = le-down _ _ (rises i j d ordered inside)

  module _ (i j : ℕ) (low : IsPartitionPoint (λ x. is_lt (order x) ≡ true) (λ x. is_lt (order x) ≡ false) xs i) (high : IsPartitionPoint (λ x. is_le (order x) ≡ true) (λ x. is_le (order x) ≡ false) (drop i xs) j) where
    before : All (λ x. is_eq (order x) ≡ false) (take i xs)
    before k d inside =
        let short : k < i = omega (arith, inside, length-take i xs) in
        rw get_or-take (lt-apart _ (low.0 k d (omega arith) short))

    among : All (λ x. is_eq (order x) ≡ true) (take j (drop i xs))
    among k d inside =
        let short : k < j = omega (arith, inside, length-take j (drop i xs)) in
        let below : i + k < length xs = omega (arith, inside, length-take j (drop i xs), length-drop i xs) in
        let not : is_lt (order (get_or (drop i xs) k d)) ≡ false =
        rw (get_or-drop i xs k d) (low.1 (i + k) d (omega arith) below) in
        rw get_or-take (between-eq _ not (high.0 k d (omega arith) short))

    behind : All (λ x. is_eq (order x) ≡ false) (drop j (drop i xs))
    behind k d inside =
        let below : j + k < length (drop i xs) = omega (arith, inside, length-drop j (drop i xs)) in
        rw (get_or-drop j (drop i xs) k d) (gt-apart _ (high.1 (j + k) d (omega arith) below))

    -- what ties stands between the two places
    pub tied-between : filter (λ x. is_eq (order x)) xs ≡ take j (drop i xs)
    tied-between =
        let is_tied = λ (x : X). is_eq (order x) in
        let rest = drop i xs in
        ap (λ ys. filter is_tied ys) (sym (take-append-drop i xs)) ∙ filter-append is_tied (take i xs) rest ∙ ap (λ ys. ys ++ filter is_tied rest) (filter-none is_tied (take i xs) before) ∙ ap (λ ys. filter is_tied ys) (sym (take-append-drop j rest)) ∙ filter-append is_tied (take j rest) (drop j rest) ∙ ap (λ ys. filter is_tied (take j rest) ++ ys) (filter-none is_tied (drop j rest) behind) ∙ append-nil (filter is_tied (take j rest)) ∙ filter-all is_tied (take j rest) among

module _ (texts : List (List ℕ)) (width : ℕ) (text : List ℕ) where
  -- how the text at a place stands to this one
  abbrev pub order : ℕ → Ordering
  order place = slice_cmp nat_cmp (take width (text_at texts place)) text

  pub order-rises : (places : List ℕ) → IsSortedBy (comes_before texts) places → Rises order places
  order-rises places sorted =
      searchable_from_sorted nat_list_cmp_total (λ place. take width (text_at texts place)) places text (λ k d low high. front-up width _ _ (sorted k d low high))

  pub standing-tied : (places : List ℕ) → standing_at texts width text places ≡ filter (λ place. is_eq (order place)) places
  standing-tied places =
      filter_agree _ _ (λ place. nat_list_eq_equiv.symm text (take width (text_at texts place)) ∙ sym (is_eq-slice_cmp (take width (text_at texts place)) text)) places
