-- Of rows of one name the last, in the order of the names: they rise.
use Rattle.std.proofs.Common.{◌≡◌, ℕ, zero, suc, ◌<◌, Bool, true, false, List, [], ◌∷◌, length, get_or, refl, sym, ◌∙◌, inl, inr, arith}
use Rattle.std.specs.Cmp.Lexicographic.{slice_cmp}
use Rattle.std.specs.List.{AllByRecursion, list_any}
use Rattle.std.specs.List.Sorted.{IsPermutation}
use Rattle.std.specs.Ordering.{is_eq, is_lt, nat_cmp, ordering_reverse}
use Rattle.std.specs.Str.{bytes_eq}
use Rattle.std.specs.declared.cmp.Ordering.{Ordering}
use Rattle.std.specs.declared.cmp.Ordering.TheVariants.{Less, Equal, Greater}
use Rattle.std.proofs.lemmas.Bool.{cases_Bool, false_from_ne_true}
use Rattle.std.proofs.lemmas.Cmp.{nat_list_cmp_total}
use Rattle.std.proofs.lemmas.List.Elements.{All-from_recursion}
use Rattle.std.proofs.lemmas.List.Sorted.{ranks_by}
use Rattle.std.proofs.lemmas.Map.Text.{is_eq-slice_cmp}
use Rattle.std.proofs.lemmas.Slice.Eq.{bytes_eq-Decides}
use Rattle.mz_base.specs.ByName.{RiseByName, latest_by_name, name_before, same_name, text_before}
use Rattle.mz_base.specs.Latest.{latest}
use Rattle.mz_base.specs.Ordered.{in_order}
use Rattle.mz_base.proofs.SortLemmas.{AllTwo, Rises-far, in_order-AllTwo, in_order-IsPermutation, in_order-Rises}

-- what each row has, each that is kept has
pub latest-All : {A : Type 0} (P : A → Type 0) (same : A → A → Bool) (rows : List A) → AllByRecursion P rows → AllByRecursion P (latest same rows)
latest-All P same [] all = tt
latest-All P same (row ∷ rows) all =
    elim (cases_Bool (list_any (same row) rows)) [
      | inl repeats ↦ rw repeats (latest-All P same rows all.1)
      | inr last ↦ rw last (all.0, latest-All P same rows all.1)
    ]

module _ {A : Type 0} (before same : A → A → Bool) where
  apart : (row : A) (rows : List A) → list_any (same row) rows ≡ false → AllByRecursion (λ other. same row other ≡ false) rows
  apart row [] none = tt
  apart row (other ∷ rows) none =
      elim (cases_Bool (same row other)) [
        | inl is ↦ let found : true ≡ false = rw is at none in absurd cc
        | inr not ↦ (not, apart row rows (rw not at none))
      ]

  -- no two that are kept repeat each other
  pub latest-AllTwo : (rows : List A) → AllTwo before (λ row other. same row other ≡ false) (latest same rows)
  latest-AllTwo [] = tt
  latest-AllTwo (row ∷ rows) =
      elim (cases_Bool (list_any (same row) rows)) [
        | inl repeats ↦ rw repeats (latest-AllTwo rows)
        | inr last ↦ rw last (latest-All (λ other. same row other ≡ false) same rows (apart row rows last), latest-AllTwo rows)
      ]

  -- of two of the items
  AllTwo-far : (R : A → A → Type 0) (items : List A) → AllTwo before R items → (i j : ℕ) (d : A) → i < j → j < length items → R (get_or items i d) (get_or items j d)
  AllTwo-far R [] two i j d less inside = absurd (omega arith)
  AllTwo-far R (first ∷ items) two i zero d less inside = absurd (omega arith)
  AllTwo-far R (first ∷ items) two zero (suc j) d less inside =
      All-from_recursion (R first) items two.0 j d (omega arith)
  AllTwo-far R (first ∷ items) two (suc i) (suc j) d less inside = AllTwo-far R items two.1 i j d (omega arith) (omega arith)

less-from : (one other : Ordering) → other ≡ ordering_reverse one → is_lt other ≡ false → is_eq one ≡ false → is_lt one ≡ true
less-from Less other turned not differ = refl
less-from Equal other turned not differ = absurd cc
less-from Greater other turned not differ =
    let never : true ≡ false = rw turned at not in absurd cc

-- of two texts that differ one comes before the other
text_before-from : (text other : List ℕ) → text_before other text ≡ false → bytes_eq text other ≡ false → text_before text other ≡ true
text_before-from text other not differ =
    less-from (slice_cmp nat_cmp text other) (slice_cmp nat_cmp other text) (nat_list_cmp_total.antisymm other text) not (is_eq-slice_cmp text other ∙ differ)

bytes_eq-turn : (text other : List ℕ) → bytes_eq text other ≡ false → bytes_eq other text ≡ false
bytes_eq-turn text other differ =
    false_from_ne_true _ (λ is. let same : bytes_eq text other ≡ true = (bytes_eq-Decides text other).1 (sym ((bytes_eq-Decides other text).0 is)) in absurd cc)

-- the rows rise strictly by their names
pub latest_by_name-rise : {A : Type 0} (name : A → List ℕ) (rows : List A) → RiseByName name (latest_by_name name rows)
latest_by_name-rise name rows i j d less inside =
    let kept = latest_by_name name rows in
    let two = in_order-AllTwo (name_before name) (λ row other. same_name name row other ≡ false) (λ row other. bytes_eq-turn (name row) (name other)) (latest (same_name name) rows) (latest-AllTwo (name_before name) (same_name name) rows) in
    let order = ranks_by nat_list_cmp_total name in
    text_before-from (name (get_or kept i d)) (name (get_or kept j d)) (Rises-far (name_before name) order kept (in_order-Rises (name_before name) order (latest (same_name name) rows)) i j d less inside) (AllTwo-far (name_before name) (same_name name) (λ row other. same_name name row other ≡ false) kept two i j d less inside)

-- they are those that no later row repeats
pub latest_by_name-same : {A : Type 0} (name : A → List ℕ) (rows : List A) → IsPermutation (latest (same_name name) rows) (latest_by_name name rows)
latest_by_name-same name rows =
    in_order-IsPermutation (name_before name) (latest (same_name name) rows)

-- of b, a and b the last b is kept, and a is first
worked : latest_by_name (λ (row : List ℕ × ℕ). row.0) ((98 ∷ [], 1) ∷ (97 ∷ [], 2) ∷ (98 ∷ [], 3) ∷ []) ≡ (97 ∷ [], 2) ∷ (98 ∷ [], 3) ∷ []
unfolding in_order
worked = refl

-- the shorter of two texts that begin alike comes first, and then the order of the characters: か, かー, が
worked-texts : latest_by_name (λ (row : List ℕ). row) ((0x304C ∷ []) ∷ (0x304B ∷ 0x30FC ∷ []) ∷ (0x304B ∷ []) ∷ []) ≡ (0x304B ∷ []) ∷ (0x304B ∷ 0x30FC ∷ []) ∷ (0x304C ∷ []) ∷ []
unfolding in_order
worked-texts = refl
