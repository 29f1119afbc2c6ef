-- What a search among the places, which are in the order of the inputs, says of all rules.
use Rattle.std.proofs.Common.{◌≡◌, ◌≢◌, ℕ, ◌<◌, ◌≤◌, Bool, true, false, List, Option, Some, None, length, get_or, nat_eq, nat_lt, sym, ap, subst, eq-eqb, ◌∙◌, inl, inr, refl, arith, Bor}
use Rattle.std.specs.Cmp.Lexicographic.{slice_cmp}
use Rattle.std.specs.List.{All, HoldsAt, range_with_len, starts_with}
use Rattle.std.specs.List.Sorted.{IsPartitionPoint, IsPartitionedBy, IsNonDecreasingBy, IsPermutation, IsSortedBy}
use Rattle.std.specs.Option.{option_copied}
use Rattle.std.specs.Ordering.{is_eq, is_gt, is_le, is_lt, nat_cmp, ordering_index, ordering_reverse}
use Rattle.std.specs.Slice.{IsItemAt}
use Rattle.std.specs.declared.cmp.Ordering.{Ordering}
use Rattle.std.specs.declared.cmp.Ordering.TheVariants.{Less, Equal, Greater}
use Rattle.std.proofs.lemmas.Bool.{cases_Bool, cases_lt, false_from_ne_true}
use Rattle.std.proofs.lemmas.Bool.Decides.{Decides-eqb, Decides-ltb}
use Rattle.std.proofs.lemmas.Cmp.{nat_list_cmp_total, tied_itself, upto}
use Rattle.std.proofs.lemmas.Grind.{get_or_default_zero}
use Rattle.std.proofs.lemmas.List.{get_or_default}
use Rattle.std.proofs.lemmas.List.Folds.{Any-from_list_any, list_any_at, list_any_none}
use Rattle.std.proofs.lemmas.List.FromFn.{get_or-range_with_len, length-range_with_len}
use Rattle.std.proofs.lemmas.List.Sorted.{All-permutation, list_any-IsPermutation, ranks_by, searchable_from_sorted, sorted_far}
use Rattle.std.proofs.lemmas.Map.Text.{is_eq-slice_cmp}
use Rattle.std.proofs.lemmas.Slice.Eq.{bytes_eq-Decides}
use Rattle.mz_base.specs.Kana.{is_open, opens}
use Rattle.mz_base.specs.declared.romaji.Rule.{Rule}
use Rattle.romaji_table.proofs.Fronts.{between-begins, longer-is-after}
use Rattle.romaji_table.specs.Index.{IsIndex, Finds, comes_before, input_at, no_rule}

-- inputs that tie are equal
tied-is : (xs ys : List ℕ) → slice_cmp nat_cmp xs ys ≡ Equal → xs ≡ ys
tied-is xs ys tied =
    (bytes_eq-Decides xs ys).0 (sym (is_eq-slice_cmp xs ys) ∙ ap is_eq tied)

-- the places of all rules, sorted by their inputs
pub IsIndex-from_sort : (rules : List Rule) (places : List ℕ) → IsPermutation (range_with_len 0 (length rules)) places → IsSortedBy (comes_before rules) places → IsIndex rules places
IsIndex-from_sort rules places moved sorted = record {
  all = λ place below. sym (list_any-IsPermutation (nat_eq place) _ places moved) ∙ list_any_at (nat_eq place) (range_with_len 0 (length rules)) place 0 (omega (arith, length-range_with_len 0 (length rules), below)) (eq-eqb place (get_or (range_with_len 0 (length rules)) place 0) (omega (arith, get_or-range_with_len 0 (length rules) place 0 below)));
  within = All-permutation (λ place. place < length rules) _ places moved (λ k d inside. let is = get_or-range_with_len 0 (length rules) k d (omega (arith, length-range_with_len 0 (length rules), inside)) in omega (arith, length-range_with_len 0 (length rules), inside, is));
  sorted = sorted;
}

reversed : (o : Ordering) → is_lt o ≡ false → is_gt (ordering_reverse o) ≡ false
reversed Less never = absurd cc
reversed Equal _ = refl
reversed Greater _ = refl

-- what is not less is not greater the other way round
gt-from_lt : (xs ys : List ℕ) → is_lt (slice_cmp nat_cmp ys xs) ≡ false → is_gt (slice_cmp nat_cmp xs ys) ≡ false
gt-from_lt xs ys not_less =
    rw (nat_list_cmp_total.antisymm xs ys) (reversed (slice_cmp nat_cmp ys xs) not_less)

module _ (rules : List Rule) (places : List ℕ) (input : List ℕ) (index : IsIndex rules places) where
  -- where the input at a place stands to the one looked for
  abbrev pub order : ℕ → Ordering
  order place = slice_cmp nat_cmp (input_at rules place) input

  -- the places may be searched by it
  pub order-rises : IsNonDecreasingBy (λ place. ordering_index (order place)) places
  order-rises =
      searchable_from_sorted nat_list_cmp_total (input_at rules) places input index.sorted

  -- what holds at all places holds of all rules
  pub All-from_places : (P : Rule → Type 0) → ((j : ℕ) → j < length places → P (get_or rules (get_or places j 0) no_rule)) → All P rules
  All-from_places P at k d inside =
      let (j, x, below, reads, same) = Any-from_list_any (nat_eq k) places (index.all k inside) in
      let same_place : k ≡ x = (Decides-eqb k x).0 same in
      let place : get_or places j 0 ≡ k = sym (get_or_default_zero places j x below) ∙ reads ∙ sym same_place in
      subst P (ap (λ m. get_or rules m no_rule) place ∙ get_or_default rules k no_rule d inside) (at j below)

  -- neither below nor above is equal
  apart : (i j : ℕ) → IsPartitionPoint (λ place. order place ≡ Less) (λ place. order place ≡ Greater) places i → j < length places → input_at rules (get_or places j 0) ≢ input
  apart i j (below, above) inside same =
      let tied : order (get_or places j 0) ≡ Equal = rw same (tied_itself nat_list_cmp_total input) in
      elim (cases_lt j i) [
        | inl less ↦ let is : order (get_or places j 0) ≡ Less = below j 0 (omega arith) less in cc
        | inr more ↦ let is : order (get_or places j 0) ≡ Greater = above j 0 more inside in cc
      ]

  -- none is left where each place is below or above
  pub none-between : (i : ℕ) → IsPartitionPoint (λ place. order place ≡ Less) (λ place. order place ≡ Greater) places i → Finds rules input None
  none-between i point =
      All-from_places (λ rule. rule.input ≢ input) (λ j inside. apart i j point inside)

  -- the rule at a place that ties
  pub found-at : (i : ℕ) (given : Option (Bor Rule)) → i < length places → HoldsAt (λ place. order place ≡ Equal) places i → IsItemAt rules (get_or places i 0) given → Finds rules input (option_copied given)
  found-at i None inside tied item = absurd (omega (arith, item.3, index.within i 0 inside))
  found-at i (Some rule) inside tied item =
      let place = get_or places i 0 in
      let below : place < length rules = index.within i 0 inside in
      let is : rule.now ≡ get_or rules place rule.now = item.3.1 rule.now in
      ((place, below, sym is), ap (λ (r : Rule). r.input) (is ∙ get_or_default rules place rule.now no_rule below) ∙ tied-is _ _ (tied 0))

-- no later and not greater are one
le-from_gt : (o : Ordering) → is_gt o ≡ false → is_le o ≡ true
le-from_gt Less _ = refl
le-from_gt Equal _ = refl
le-from_gt Greater never = absurd cc

gt-from_le : (o : Ordering) → is_le o ≡ true → is_gt o ≡ false
gt-from_le Less _ = refl
gt-from_le Equal _ = refl
gt-from_le Greater never = absurd cc

-- a rule that goes on after the text
goes-on : (text : List ℕ) (rule : Rule) → opens text rule ≡ true → (starts_with nat_eq rule.input text ≡ true) × (length text < length rule.input)
goes-on text rule is =
    elim (cases_Bool (starts_with nat_eq rule.input text)) [
      | inl begins ↦ let less : nat_lt (length text) (length rule.input) ≡ true = rw begins at is in (begins, (Decides-ltb (length text) (length rule.input)).0 less)
      | inr not ↦ let never : false ≡ true = rw not at is in absurd cc
    ]

goes-on-back : (text : List ℕ) (rule : Rule) → (starts_with nat_eq rule.input text ≡ true) × (length text < length rule.input) → opens text rule ≡ true
goes-on-back text rule (begins, less) =
    rw begins ((Decides-ltb (length text) (length rule.input)).1 less)

module _ (rules : List Rule) (places : List ℕ) (text : List ℕ) (index : IsIndex rules places) where
  -- the input at a place is no later than the text
  abbrev pub is_upto : ℕ → Bool
  is_upto place = is_le (slice_cmp nat_cmp (input_at rules place) text)

  -- of two places the later one has no earlier input
  rises : (i j d : ℕ) → i ≤ j → j < length places → is_gt (slice_cmp nat_cmp (input_at rules (get_or places i d)) (input_at rules (get_or places j d))) ≡ false
  rises i j d before inside =
      gt-from_lt (input_at rules (get_or places i d)) (input_at rules (get_or places j d)) (sorted_far (comes_before rules) (ranks_by nat_list_cmp_total (input_at rules)) places index.sorted i j d before inside)

  -- the places may be parted by it
  pub upto-parts : IsPartitionedBy is_upto places
  upto-parts i j d before inside is =
      le-from_gt _ (upto nat_list_cmp_total (input_at rules (get_or places i d)) (input_at rules (get_or places j d)) text (rises i j d before inside) (gt-from_le _ is))

  -- a rule that goes on after the text is later
  later : (place : ℕ) → opens text (get_or rules place no_rule) ≡ true → is_upto place ≡ false
  later place is =
      let (begins, longer) = goes-on text (get_or rules place no_rule) is in
      ap is_le (longer-is-after text (input_at rules place) begins longer)

  -- where the first later rule does not go on after the text, no other does
  closed-at : (i j : ℕ) → i < length places → j < length places → IsPartitionPoint (λ place. is_upto place ≡ true) (λ place. is_upto place ≡ false) places i → opens text (get_or rules (get_or places i 0) no_rule) ≡ false → opens text (get_or rules (get_or places j 0) no_rule) ≡ false
  closed-at i j inside below (before, after) closed =
      false_from_ne_true _ (λ opened. elim (cases_lt j i) [
        | inl less ↦
            let is : is_upto (get_or places j 0) ≡ true = before j 0 (omega arith) less in
            let isnt : is_upto (get_or places j 0) ≡ false = later (get_or places j 0) opened in
            absurd cc
        | inr from ↦
            let begins = (goes-on text (get_or rules (get_or places j 0) no_rule) opened).0 in
            let front = between-begins text (input_at rules (get_or places j 0)) (input_at rules (get_or places i 0)) (after i 0 (omega arith) inside) (rises i j 0 from below) begins in
            let is : opens text (get_or rules (get_or places i 0) no_rule) ≡ true = goes-on-back text (get_or rules (get_or places i 0) no_rule) front in
            absurd cc
      ])

  -- a rule goes on after the text exactly where the first later one does
  pub open-at : (i : ℕ) → i < length places → IsPartitionPoint (λ place. is_upto place ≡ true) (λ place. is_upto place ≡ false) places i → opens text (get_or rules (get_or places i 0) no_rule) ≡ is_open rules text
  open-at i inside point =
      let first = get_or rules (get_or places i 0) no_rule in
      elim (cases_Bool (opens text first)) [
        | inl opened ↦ rw opened (sym (list_any_at (opens text) rules (get_or places i 0) no_rule (index.within i 0 inside) opened))
        | inr closed ↦ rw closed (sym (list_any_none (opens text) rules (All-from_places rules places text index (λ rule. opens text rule ≡ false) (λ j below. closed-at i j inside below point closed))))
      ]

  -- no rule goes on after the text where none is later
  pub open-past : (i : ℕ) → length places ≤ i → IsPartitionPoint (λ place. is_upto place ≡ true) (λ place. is_upto place ≡ false) places i → false ≡ is_open rules text
  open-past i past point =
      sym (list_any_none (opens text) rules (All-from_places rules places text index (λ rule. opens text rule ≡ false) (λ j below. false_from_ne_true _ (λ opened.
      let is : is_upto (get_or places j 0) ≡ true = point.0 j 0 (omega arith) (omega arith) in
      let isnt : is_upto (get_or places j 0) ≡ false = later (get_or places j 0) opened in
      absurd cc))))
