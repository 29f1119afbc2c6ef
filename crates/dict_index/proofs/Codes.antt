-- Texts that begin alike: the code of the next letter tells them apart, and those that end there stand first.
use Rattle.std.proofs.Common.{◌≡◌, ℕ, zero, suc, ◌+◌, ◌-◌, ◌<◌, ◌≤◌, ◌==◌, Bool, true, false, cond, List, [], ◌∷◌, length, get_or, map, take, nat_eq, nat_lt, refl, sym, ap, subst, ◌∙◌, arith, inl, inr, true≢false, add-one, length-take}
use Rattle.std.specs.Cmp.{nat_cmp_is}
use Rattle.std.specs.Cmp.Lexicographic.{slice_cmp}
use Rattle.std.specs.List.{All, filter, take_while}
use Rattle.std.specs.List.Sorted.{IsPartitionedBy, IsSortedBy}
use Rattle.std.specs.Ordering.{is_eq, nat_cmp, ordering_index, ordering_then}
use Rattle.std.specs.declared.cmp.Ordering.{Ordering}
use Rattle.std.specs.declared.cmp.Ordering.TheVariants.{Less, Equal, Greater}
use Rattle.std.proofs.lemmas.Bool.{cases_Bool, false_from_ne_true}
use Rattle.std.proofs.lemmas.Bool.Decides.{nat_tests}
use Rattle.std.proofs.Math.ListN.{get_or-map}
use Rattle.std.proofs.lemmas.List.{length-map}
use Rattle.std.proofs.lemmas.List.Sums.{take_while-cons}
use Rattle.std.proofs.lemmas.List.Elements.{All-cons, All-nil}
use Rattle.dict_index.specs.Heads.{AreHeads, AreInOrder, code_at, code_of, head_of, places_in}
use Rattle.dict_index.specs.Order.{AllBegin, IsIndex, comes_before, standing_at, text_at}
use Rattle.dict_index.specs.declared.heads.Head.{Head}
use Rattle.dict_index.proofs.Filters.{filter-alike, filter-none, map-filter}
use Rattle.dict_index.proofs.Standing.{Rises, order, order-rises, standing-tied}

-- ---- The code of a letter

pub code-none : (text : List ℕ) (depth : ℕ) → length text ≤ depth → code_at text depth ≡ 0
code-none [] depth past = refl
code-none (c ∷ text) zero past = absurd (omega (arith, past))
code-none (c ∷ text) (suc depth) past = code-none text depth (omega (arith, past))

pub code-some : (text : List ℕ) (depth d : ℕ) → depth < length text → code_at text depth ≡ suc (get_or text depth d)
code-some [] depth d inside = absurd (omega (arith, inside))
code-some (c ∷ text) zero d inside = refl
code-some (c ∷ text) (suc depth) d inside = code-some text depth d (omega (arith, inside))

-- a head has the codes of its text
code-of-head : (texts : List (List ℕ)) (head : Head) (depth : ℕ) → head ≡ head_of texts head.place → code_of texts head depth ≡ code_at (text_at texts head.place) depth
code-of-head texts head zero is = ap (λ h. h.first) is
code-of-head texts head (suc zero) is = ap (λ h. h.second) is
code-of-head texts head (suc (suc zero)) is = ap (λ h. h.third) is
code-of-head texts head (suc (suc (suc n))) is =
    let none : (suc (suc (suc n)) == 0) ≡ false = grind (arith, nat_tests) in
    let one : (suc (suc (suc n)) == 1) ≡ false = grind (arith, nat_tests) in
    let two : (suc (suc (suc n)) == 2) ≡ false = grind (arith, nat_tests) in
    simp (none, one, two) refl

-- ---- Two texts

then-equal : (o : Ordering) → ordering_then o Equal ≡ o
then-equal Less = refl
then-equal Equal = refl
then-equal Greater = refl

same-letter : (c d : ℕ) (o : Ordering) → c ≡ d → ordering_then (nat_cmp c d) o ≡ o
same-letter c d o same = rw (same, sym (nat_cmp_is d d Equal refl)) refl

-- the codes of two letters stand as the letters
by-codes : (c d : ℕ) → nat_cmp c d ≡ nat_cmp (suc c) (suc d)
by-codes c d =
    let less : nat_lt c d ≡ nat_lt (suc c) (suc d) = grind (arith, nat_tests) in
    let same : (c == d) ≡ (suc c == suc d) = grind (arith, nat_tests) in
    ap (λ t. cond t Less (cond (c == d) Equal Greater)) less ∙ ap (λ t. cond (nat_lt (suc c) (suc d)) Less (cond t Equal Greater)) same

first-two : (x y : ℕ) (xs ys : List ℕ) → x ∷ xs ≡ y ∷ ys → (x ≡ y) × (xs ≡ ys)
first-two x y xs ys same = (cc same, cc same)

-- after the same letters the last one tells
last-tells : (depth : ℕ) (xs ys : List ℕ) (d : ℕ) → length ys ≡ suc depth → take depth xs ≡ take depth ys → slice_cmp nat_cmp (take (suc depth) xs) ys ≡ nat_cmp (code_at xs depth) (suc (get_or ys depth d))
last-tells depth xs [] d long same = absurd (omega (arith, long))
last-tells zero [] (y ∷ ys) d long same = nat_cmp_is 0 (suc y) Less (omega arith)
last-tells zero (x ∷ xs) (y ∷ []) d long same = then-equal (nat_cmp x y) ∙ by-codes x y
last-tells zero (x ∷ xs) (y ∷ z ∷ ys) d long same = absurd (omega (arith, long))
last-tells (suc depth) [] (y ∷ ys) d long same = absurd (cc same)
last-tells (suc depth) (x ∷ xs) (y ∷ ys) d long same =
    let (first, rest) = first-two x y (take depth xs) (take depth ys) same in
    same-letter x y _ first ∙ last-tells depth xs ys d (omega (arith, long)) rest

-- a text that begins with another one is it, or is longer and comes behind it
ends-tells : (xs ys : List ℕ) → take (length ys) xs ≡ ys → slice_cmp nat_cmp (take (suc (length ys)) xs) ys ≡ cond (nat_eq (code_at xs (length ys)) 0) Equal Greater
ends-tells [] [] same = refl
ends-tells (x ∷ xs) [] same =
    let longer : nat_eq (suc x) 0 ≡ false = grind (arith, nat_tests) in
    sym (ap (λ t. cond t Equal Greater) longer)
ends-tells [] (y ∷ ys) same = absurd (cc same)
ends-tells (x ∷ xs) (y ∷ ys) same =
    let (first, rest) = first-two x y (take (length ys) xs) ys same in
    same-letter x y _ first ∙ ends-tells xs ys rest

is_eq-cond : (t : Bool) → is_eq (cond t Equal Greater) ≡ t
is_eq-cond true = refl
is_eq-cond false = refl

whole-down : (t : Bool) → ordering_index (cond t Equal Greater) ≤ ordering_index Equal → t ≡ true
whole-down true up = refl
whole-down false up = absurd (omega (arith, up))

-- ---- Heads

module _ (texts : List (List ℕ)) (heads : List Head) (text : List ℕ) where
  abbrev places : List ℕ
  places = places_in heads

  -- the heads stand as their texts do when cut after so many characters
  abbrev pub by_text : ℕ → Head → Ordering
  by_text width head = order texts width text head.place

  pub by_text-rises : (width : ℕ) → IsSortedBy (comes_before texts) places → Rises (by_text width) heads
  by_text-rises width sorted i j d ordered inside =
      let rises = order-rises texts width text places sorted i j d.place ordered (subst (λ n. j < n) (sym (length-map heads (λ head. head.place))) inside) in
      rw (get_or-map (λ head. head.place) heads i d, get_or-map (λ head. head.place) heads j d) at rises

  pub standing-by_text : (width : ℕ) → places_in (filter (λ head. is_eq (by_text width head)) heads) ≡ standing_at texts width text places
  standing-by_text width =
      map-filter (λ head. head.place) (λ head. is_eq (by_text width head)) (λ place. is_eq (order texts width text place)) heads (λ k d inside. refl) ∙ sym (standing-tied texts width text places)

  module _ (are : AreHeads texts heads) where
    -- how the code of a head's next letter stands to that of the text's last letter
    abbrev pub by_code : ℕ → Head → Ordering
    by_code letter head = nat_cmp (code_of texts head (length text - 1)) (letter + 1)

    module _ (letter : ℕ) (last : letter ≡ get_or text (length text - 1) letter) (some : 0 < length text) (begun : AllBegin texts (take (length text - 1) text) places) where
      agrees : All (λ head. by_text (length text) head ≡ by_code letter head) heads
      agrees k d inside =
          let head = get_or heads k d in
          let xs = text_at texts head.place in
          let depth = length text - 1 in
          let is : suc depth ≡ length text = omega (arith, some) in
          let one : suc letter ≡ letter + 1 = omega arith in
          let front : length (take depth text) ≡ depth = omega (arith, some, length-take depth text) in
          let there = begun k d.place (subst (λ n. k < n) (sym (length-map heads (λ head. head.place))) inside) in
          let starts = rw (get_or-map (λ head. head.place) heads k d) at there in
          let same : take depth xs ≡ take depth text = ap (λ n. take n xs) (sym front) ∙ starts in
          ap (λ n. slice_cmp nat_cmp (take n xs) text) (sym is) ∙ last-tells depth xs text letter (sym is) same ∙ ap (λ c. nat_cmp c (suc (get_or text depth letter))) (sym (code-of-head texts head depth (are k d inside))) ∙ ap (λ l. nat_cmp (code_of texts head depth) (suc l)) (sym last) ∙ ap (λ n. nat_cmp (code_of texts head depth) n) one

      pub by_code-rises : IsSortedBy (comes_before texts) places → Rises (by_code letter) heads
      by_code-rises sorted i j d ordered inside =
          let rises = by_text-rises (length text) sorted i j d ordered inside in
          rw (agrees i d (omega (arith, ordered, inside)), agrees j d inside) at rises

      pub standing-by_code : places_in (filter (λ head. is_eq (by_code letter head)) heads) ≡ standing_at texts (length text) text places
      standing-by_code =
          ap places_in (filter-alike _ _ heads (λ k d inside. ap is_eq (sym (agrees k d inside)))) ∙ standing-by_text (length text)

    -- the head's text ends with this one
    abbrev pub is_whole : Head → Bool
    is_whole head = nat_eq (code_of texts head (length text)) 0

    module _ (begun : AllBegin texts text places) where
      agrees-whole : All (λ head. by_text (length text + 1) head ≡ cond (is_whole head) Equal Greater) heads
      agrees-whole k d inside =
          let head = get_or heads k d in
          let there = begun k d.place (subst (λ n. k < n) (sym (length-map heads (λ head. head.place))) inside) in
          let starts = rw (get_or-map (λ head. head.place) heads k d) at there in
          rw (add-one, code-of-head texts head (length text) (are k d inside)) (ends-tells (text_at texts head.place) text starts)

      pub standing-whole : places_in (filter is_whole heads) ≡ standing_at texts (length text + 1) text places
      standing-whole =
          ap places_in (filter-alike _ _ heads (λ k d inside. sym (ap is_eq (agrees-whole k d inside) ∙ is_eq-cond (is_whole (get_or heads k d))))) ∙ standing-by_text (length text + 1)

      pub IsPartitionedBy-whole : IsSortedBy (comes_before texts) places → IsPartitionedBy is_whole heads
      IsPartitionedBy-whole sorted i j d ordered inside whole =
          let rises = by_text-rises (length text + 1) sorted i j d ordered inside in
          let up = rw (agrees-whole i d (omega (arith, ordered, inside)), agrees-whole j d inside, whole) at rises in
          whole-down (is_whole (get_or heads i d)) up

-- those that stand first and pass are all that pass, where none passes behind one that fails
pub take_while-filter : {X : Type 0} (p : X → Bool) (xs : List X) → IsPartitionedBy p xs → take (length (take_while p xs)) xs ≡ filter p xs
take_while-filter p [] parted = refl
take_while-filter p (x ∷ xs) parted =
    elim (cases_Bool (p x)) [
      | inl is ↦
          let rest = take_while-filter p xs (λ i j d ordered inside. parted (suc i) (suc j) d (omega (arith, ordered)) (omega (arith, inside))) in
          rw (take_while-cons p x xs, is) (ap (λ ys. x ∷ ys) rest)
      | inr not ↦
          let none = filter-none p xs (λ k d inside. false_from_ne_true _ (λ passes. true≢false (sym (parted 0 (suc k) d (omega arith) (omega (arith, inside)) passes) ∙ not))) in
          rw (take_while-cons p x xs, not) (sym none)
    ]

-- ---- The heads of all texts

module _ (texts : List (List ℕ)) where
  pub places-of-heads : (places : List ℕ) → places_in (map (head_of texts) places) ≡ places
  places-of-heads [] = refl
  places-of-heads (place ∷ places) = ap (λ ps. place ∷ ps) (places-of-heads places)

  are-heads : (places : List ℕ) → AreHeads texts (map (head_of texts) places)
  are-heads [] = All-nil (λ (head : Head). head ≡ head_of texts head.place)
  are-heads (place ∷ places) =
      All-cons (λ (head : Head). head ≡ head_of texts head.place) (head_of texts place) (map (head_of texts) places) refl (are-heads places)

  pub AreInOrder-heads : (places : List ℕ) (heads : List Head) → IsIndex texts places → heads ≡ map (head_of texts) places → AreInOrder texts heads
  AreInOrder-heads places heads index is =
      subst (AreInOrder texts) (sym is) (record { index = subst (IsIndex texts) (sym (places-of-heads places)) index; are = are-heads places })
