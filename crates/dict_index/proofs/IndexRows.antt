-- What an index gives in its order, against the rows by definition.
use Rattle.std.proofs.Common.{◌≡◌, ℕ, ◌<◌, Bool, true, not, ◌&&◌, List, [], ◌∷◌, length, nat_eq, refl, sym, ap, subst, ◌∙◌, arith}
use Rattle.std.specs.Cmp.Lexicographic.{slice_cmp}
use Rattle.std.specs.List.{All, filter, range_with_len, starts_with}
use Rattle.std.specs.List.Sorted.{IsNonDecreasing, IsSortedBy, ties}
use Rattle.std.specs.Ordering.{is_eq, is_lt, nat_cmp, ordering_reverse}
use Rattle.std.specs.declared.cmp.Ordering.{Ordering}
use Rattle.std.specs.declared.cmp.Ordering.TheVariants.{Less, Equal, Greater}
use Rattle.std.proofs.lemmas.Cmp.{nat_list_cmp_total, tied_itself}
use Rattle.std.proofs.lemmas.List.Elements.{All-head, filter_agree, filter_passes}
use Rattle.std.proofs.lemmas.List.FromFn.{get_or-range_with_len, length-range_with_len}
use Rattle.std.proofs.lemmas.List.Kept.{IsNonDecreasingBy-filter, IsSortedBy-filter}
use Rattle.std.proofs.lemmas.List.Sorted.{ranks_by}
use Rattle.std.proofs.lemmas.Map.Text.{is_eq-slice_cmp}
use Rattle.std.proofs.lemmas.Slice.Eq.{bytes_eq-Decides}
use Rattle.mz_base.specs.Data.{is_text, rows_with, rows_with_prefix, places as places_of}
use Rattle.dict_index.specs.Order.{IsIndex, comes_before, standing_at, text_at}
use Rattle.dict_index.proofs.SameNumbers.{AreSame, AreSame-filter, AreSame-nil, AreSame-stable, rising-is}

-- places in a row rise
range-rises : (n : ℕ) → IsNonDecreasing (range_with_len 0 n)
range-rises n i j d ordered inside =
    let below : j < n = omega (arith, inside, length-range_with_len 0 n) in
    let low = get_or-range_with_len 0 n i d (omega arith) in
    let high = get_or-range_with_len 0 n j d below in
    omega (arith, low, high, ordered)

pub neither-less : (o : Ordering) → (not (is_lt (ordering_reverse o)) && not (is_lt o)) ≡ is_eq o
neither-less Less = refl
neither-less Equal = refl
neither-less Greater = refl

-- the places whose texts tie with one are those with its text
tied-text : (texts : List (List ℕ)) (place other : ℕ) → ties (comes_before texts) place other ≡ is_text (text_at texts place) (text_at texts other)
tied-text texts place other =
    let back = nat_list_cmp_total.antisymm (text_at texts place) (text_at texts other) in
    let order = slice_cmp nat_cmp (text_at texts other) (text_at texts place) in
    ap (λ o. not (is_lt o) && not (is_lt order)) back ∙ neither-less order ∙ is_eq-slice_cmp (text_at texts other) (text_at texts place)

module _ (texts : List (List ℕ)) (places : List ℕ) (index : IsIndex texts places) where
  abbrev pub all : List ℕ
  all = range_with_len 0 (length texts)

  -- the index has the places of all texts
  pub all-places : AreSame places all
  all-places =
      AreSame-stable (comes_before texts) (λ place. ap is_lt (tied_itself nat_list_cmp_total (text_at texts place))) all places index.stable

  -- a part of the index stays in order
  pub part-sorted : (p : ℕ → Bool) → IsSortedBy (comes_before texts) (filter p places)
  part-sorted p =
      IsSortedBy-filter (comes_before texts) (ranks_by nat_list_cmp_total (text_at texts)) p places index.sorted

  abbrev pub has_text : List ℕ → ℕ → Bool
  has_text text place = is_text text (text_at texts place)

  -- where some row has the text, or none has
  text-rows : (text : List ℕ) (rows : List ℕ) → filter (has_text text) all ≡ rows → filter (has_text text) places ≡ filter (has_text text) all
  text-rows text [] is =
      AreSame-nil _ (λ n. AreSame-filter (has_text text) places all all-places n ∙ ap (λ zs. filter (nat_eq n) zs) is) ∙ sym is
  text-rows text (place ∷ rows) is =
      let passes : All (λ n. has_text text n ≡ true) (place ∷ rows) =
      subst (λ zs. All (λ n. has_text text n ≡ true) zs) is (filter_passes (has_text text) all) in
      let same : text_at texts place ≡ text =
      (bytes_eq-Decides (text_at texts place) text).0 (All-head (λ n. has_text text n ≡ true) place rows passes) in
      let agree : (n : ℕ) → has_text text n ≡ ties (comes_before texts) place n =
      λ n. ap (λ t. is_text t (text_at texts n)) (sym same) ∙ sym (tied-text texts place n) in
      filter_agree _ _ agree places ∙ index.stable place ∙ sym (filter_agree _ _ agree all)

  -- the rows with a text stand in their order
  pub rows-of_text : (text : List ℕ) → filter (has_text text) places ≡ rows_with texts text
  unfolding places_of
  rows-of_text text = text-rows text _ refl

  -- the places of the texts that begin with a prefix are the rows with it
  pub prefix-rows : (prefix : List ℕ) → AreSame (standing_at texts (length prefix) prefix places) (rows_with_prefix texts prefix)
  unfolding places_of
  prefix-rows prefix n =
      AreSame-filter (λ (place : ℕ). starts_with nat_eq (text_at texts place) prefix) places all all-places n

  pub prefix-rises : (prefix : List ℕ) → IsNonDecreasing (rows_with_prefix texts prefix)
  unfolding places_of
  prefix-rises prefix =
      IsNonDecreasingBy-filter (λ n. n) (λ (place : ℕ). starts_with nat_eq (text_at texts place) prefix) all (range-rises (length texts))

  -- the rows with a prefix, once they are sorted
  pub rows-of_prefix : (prefix rows : List ℕ) → IsNonDecreasing rows → AreSame rows (standing_at texts (length prefix) prefix places) → rows ≡ rows_with_prefix texts prefix
  rows-of_prefix prefix rows up same =
      rising-is rows (rows_with_prefix texts prefix) up (prefix-rises prefix) (λ n. same n ∙ prefix-rows prefix n)
