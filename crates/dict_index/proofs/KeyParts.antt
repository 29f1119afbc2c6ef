-- The parts of a key that begin at one place, and the texts that begin with them.
use Rattle.std.proofs.Common.{◌≡◌, ℕ, suc, ◌+◌, ◌-◌, ◌<◌, ◌≤◌, Bool, true, ◌&&◌, List, [], ◌∷◌, length, get_or, map, take, drop, nat_eq, refl, sym, ap, subst, ◌∙◌, arith, add-one, length-take, length-drop, take-take}
use Rattle.std.specs.List.{filter, flat_map, range_with_len, slice_range, starts_with}
use Rattle.std.specs.List.Sorted.{IsSortedBy}
use Rattle.std.proofs.lemmas.Cmp.{nat_eq_equiv}
use Rattle.std.proofs.lemmas.List.Elements.{filter_agree, filter_passes}
use Rattle.std.proofs.lemmas.List.FromFn.{get_or-range_with_len, length-range_with_len}
use Rattle.std.proofs.lemmas.Slice.Eq.{bytes_eq-Decides}
use lib.Pointwise.{pointwise}
use Rattle.mz_base.specs.Data.{hits_to, is_text, rows_with}
use Rattle.dict_index.specs.Order.{AllBegin, IsIndex, comes_before, standing_at, text_at}
use Rattle.dict_index.proofs.Filters.{filter-all, filter-within, flat_map-none}
use Rattle.dict_index.proofs.IndexRows.{part-sorted, rows-of_text}

-- a text that begins with a text begins with its fronts
starts-trans : (xs middle front : List ℕ) → starts_with nat_eq middle front ≡ true → starts_with nat_eq xs middle ≡ true → starts_with nat_eq xs front ≡ true
starts-trans xs middle front first second =
    let is-front : front ≡ take (length front) middle =
    (bytes_eq-Decides front (take (length front) middle)).0 first in
    let is-middle : middle ≡ take (length middle) xs =
    (bytes_eq-Decides middle (take (length middle) xs)).0 second in
    let long = ap (λ cs. length cs) is-front in
    let short : length front ≤ length middle =
    omega (arith, long, length-take (length front) middle) in
    (bytes_eq-Decides front (take (length front) xs)).1 (is-front ∙ ap (λ cs. take (length front) cs) is-middle ∙ take-take (length front) (length middle) xs short)

-- a text cut behind the characters of another is the other exactly where it is equal
stands-exactly : (text xs : List ℕ) → pointwise nat_eq text (take (suc (length text)) xs) ≡ is_text text xs
stands-exactly [] [] = refl
stands-exactly [] (x ∷ xs) = refl
stands-exactly (c ∷ text) [] = refl
stands-exactly (c ∷ text) (x ∷ xs) =
    ap (λ b. b && pointwise nat_eq text (take (suc (length text)) xs)) (nat_eq_equiv.symm c x) ∙ ap (λ b. nat_eq x c && b) (stands-exactly text xs)

module _ (key : List ℕ) (begin : ℕ) where
  abbrev pub part : ℕ → List ℕ
  part end = slice_range key begin end

  pub length-part : (end : ℕ) → end ≤ length key → length (part end) ≡ end - begin
  length-part end within =
      omega (arith, length-take (end - begin) (drop begin key), length-drop begin key)

  -- a shorter part begins a longer one
  part-starts : (low end : ℕ) → low ≤ end → end ≤ length key → starts_with nat_eq (part end) (part low) ≡ true
  part-starts low end less within =
      let long : length (part low) ≡ low - begin = length-part low (omega arith) in
      let same : part low ≡ take (length (part low)) (part end) =
      sym (ap (λ n. take n (part end)) long ∙ take-take (low - begin) (end - begin) (drop begin key) (omega arith)) in
      (bytes_eq-Decides (part low) (take (length (part low)) (part end))).1 same

  module _ (texts : List (List ℕ)) where
    -- the text at a place begins with the part
    abbrev pub begins : ℕ → ℕ → Bool
    begins end place = starts_with nat_eq (text_at texts place) (part end)

    -- each text begins with the empty part
    pub begins-all : (places : List ℕ) → filter (begins begin) places ≡ places
    begins-all places =
        filter-all (begins begin) places (λ k d inside. let none : begin - begin ≡ 0 = omega arith in let is : part begin ≡ [] = ap (λ n. take n (drop begin key)) none in ap (λ cs. starts_with nat_eq (text_at texts (get_or places k d)) cs) is)

    -- of the texts that begin with a part, those that begin with a longer one
    pub narrowed : (places : List ℕ) (low end : ℕ) → low ≤ end → end ≤ length key → standing_at texts (length (part end)) (part end) (filter (begins low) places) ≡ filter (begins end) places
    narrowed places low end less within =
        filter-within (begins end) (begins low) (λ place is. starts-trans (text_at texts place) (part end) (part low) (part-starts low end less within) is) places

    -- the same of a list that is the part, and of the places so far
    pub begun-next : (places : List ℕ) (low end : ℕ) (cs begun next : List ℕ) → cs ≡ part end → begun ≡ filter (begins low) places → next ≡ standing_at texts (length cs) cs begun → low ≤ end → end ≤ length key → next ≡ filter (begins end) places
    begun-next places low end cs begun next is-part is-begun is-next less within =
        is-next ∙ ap (λ xs. standing_at texts (length cs) cs xs) is-begun ∙ ap (λ ds. standing_at texts (length ds) ds (filter (begins low) places)) is-part ∙ narrowed places low end less within

    -- of the texts that begin with a part, those that are a longer one
    exact-within : (places : List ℕ) (low end : ℕ) → low ≤ end → end ≤ length key → filter (λ place. is_text (part end) (text_at texts place)) (filter (begins low) places) ≡ filter (λ place. is_text (part end) (text_at texts place)) places
    exact-within places low end less within =
        filter-within (λ place. is_text (part end) (text_at texts place)) (begins low) (λ place is. let same = (bytes_eq-Decides (text_at texts place) (part end)).0 is in subst (λ cs. starts_with nat_eq cs (part low) ≡ true) (sym same) (part-starts low end less within)) places

    -- those that begin with a part are all so
    pub begun-AllBegin : (places : List ℕ) (end : ℕ) (begun : List ℕ) → begun ≡ filter (begins end) places → AllBegin texts (part end) begun
    begun-AllBegin places end begun is =
        subst (AllBegin texts (part end)) (sym is) (λ k d inside. sym ((bytes_eq-Decides (part end) (take (length (part end)) (text_at texts (get_or (filter (begins end) places) k d)))).0 (filter_passes (begins end) places k d inside)))

    -- the part before is the part without its last letter
    pub front-AllBegin : (places : List ℕ) (end : ℕ) (cs begun : List ℕ) → cs ≡ part end → begun ≡ filter (begins (end - 1)) places → begin < end → end ≤ length key → AllBegin texts (take (length cs - 1) cs) begun
    front-AllBegin places end cs begun is-part is-begun more within =
        let long = length-part end within in
        let front : take (length (part end) - 1) (part end) ≡ part (end - 1) =
        ap (λ n. take n (part end)) (omega (arith, long, more)) ∙ take-take (end - 1 - begin) (end - begin) (drop begin key) (omega (arith, more)) in
        subst (λ front. AllBegin texts front begun) (sym (ap (λ ds. take (length ds - 1) ds) is-part ∙ front)) (begun-AllBegin places (end - 1) begun is-begun)

    module _ (places : List ℕ) (index : IsIndex texts places) where
      pub begun-sorted : (end : ℕ) (begun : List ℕ) → begun ≡ filter (begins end) places → IsSortedBy (comes_before texts) begun
      begun-sorted end begun is =
          subst (λ xs. IsSortedBy (comes_before texts) xs) (sym is) (part-sorted texts places index (begins end))

      -- the rows with the part
      pub exact : (end : ℕ) → end ≤ length key → standing_at texts (length (part end) + 1) (part end) (filter (begins end) places) ≡ rows_with texts (part end)
      exact end within =
          filter_agree _ _ (λ place. rw add-one (stands-exactly (part end) (text_at texts place))) (filter (begins end) places) ∙ exact-within places end end (omega arith) within ∙ rows-of_text texts places index (part end)

      pub found-exact : (end : ℕ) (cs begun found : List ℕ) → cs ≡ part end → begun ≡ filter (begins end) places → found ≡ standing_at texts (length cs + 1) cs begun → end ≤ length key → found ≡ rows_with texts (part end)
      found-exact end cs begun found is-part is-begun is-found within =
          is-found ∙ ap (λ xs. standing_at texts (length cs + 1) cs xs) is-begun ∙ ap (λ ds. standing_at texts (length ds + 1) ds (filter (begins end) places)) is-part ∙ exact end within

      -- where no text begins with a part, none is a longer one
      pub none-longer : (end later : ℕ) → filter (begins end) places ≡ [] → end ≤ later → later ≤ length key → hits_to texts key begin later ≡ []
      none-longer end later none less within =
          let rows : rows_with texts (part later) ≡ [] =
          sym (rows-of_text texts places index (part later)) ∙ sym (exact-within places end later less within) ∙ ap (λ xs. filter (λ place. is_text (part later) (text_at texts place)) xs) none in
          ap (λ xs. map (λ row. record { end = later; row = row }) xs) rows

      -- so nothing is left to find
      pub none-left : (end : ℕ) → filter (begins end) places ≡ [] → flat_map (hits_to texts key begin) (range_with_len end (length key + 1 - end)) ≡ []
      none-left end none =
          flat_map-none (hits_to texts key begin) (range_with_len end (length key + 1 - end)) (λ k d inside. let n = length key + 1 - end in let below : k < n = omega (arith, inside, length-range_with_len end n) in let is = get_or-range_with_len end n k d below in subst (λ later. hits_to texts key begin later ≡ []) (sym is) (none-longer end (end + k) none (omega arith) (omega arith)))

-- the first of the ends that are left
pub ends-more : (end last : ℕ) → end < last → range_with_len end (last - end) ≡ end ∷ range_with_len (end + 1) (last - (end + 1))
ends-more end last less =
    let is : last - end ≡ suc (last - (end + 1)) = omega arith in
    ap (λ n. range_with_len end n) is
