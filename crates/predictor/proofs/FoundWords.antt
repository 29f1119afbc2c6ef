-- The words that a search finds, and when they are enough.
use Rattle.std.proofs.Common.{◌≡◌, sym, ap, ◌∙◌, ℕ, ◌+◌, ◌-◌, ◌*◌, ◌<◌, ◌≤◌, Bool, List, [], ◌∷◌, ◌++◌, refl, subst, length, take, drop, map, append_assoc, arith, All, get_or}
use Rattle.std.specs.Prelude.{nat_eq}
use Rattle.std.specs.List.{range_with_len, starts_with}
use Rattle.std.proofs.lemmas.List.{length-map, length-take, take-append-drop, take-map, take_all}
use Rattle.std.proofs.lemmas.List.Elements.{All-filter, All-from_recursion, All-map, All-take, recursion_from_All}
use Rattle.std.proofs.lemmas.List.FromFn.{get_or-range_with_len, length-range_with_len}
use Rattle.std.proofs.lemmas.List.Sorted.{length_permutation}
use Rattle.mz_base.specs.Data.{DataLists, cheapest, costs_less, places, priced, readings, rows_with_prefix}
use Rattle.mz_base.specs.Ordered.{in_order}
use Rattle.mz_base.specs.declared.data.PricedRow.{PricedRow}
use Rattle.mz_base.specs.declared.lattice.Pair.{Pair}
use Rattle.mz_base.proofs.SortLemmas.{in_order-All, in_order-IsPermutation}
use Rattle.conversion_meaning.specs.Firsts.{firsts}
use Rattle.conversion_meaning.specs.Suggestions.{means_other, offered, recalled, suggestions, word_pair}
use Rattle.conversion_meaning.specs.declared.suggestions.TheConstants.{MOST_SUGGESTIONS}
use Rattle.predictor.specs.Pairs.{distinct}
use Rattle.predictor.proofs.FirstLemmas.{firsts-enough}

-- the words of a prefix in order
abbrev in_turn : DataLists → List ℕ → List PricedRow
in_turn d base = in_order costs_less (map (priced d) (rows_with_prefix (readings d) base))

-- how many words there are
abbrev pub count : DataLists → List ℕ → ℕ
count d base = length (rows_with_prefix (readings d) base)

All-range : (n : ℕ) → All (λ row. row < n) (range_with_len 0 n)
All-range n = λ k d inside.
    let long = length-range_with_len 0 n in
    let at = get_or-range_with_len 0 n k d (omega (arith, long)) in
    omega (arith, long, at)

All-places : (passes : List ℕ → Bool) (texts : List (List ℕ)) → All (λ row. row < length texts) (places passes texts)
unfolding places
All-places passes texts =
    All-filter (λ i. passes (get_or texts i [])) (λ row. row < length texts) (range_with_len 0 (length texts)) (All-range (length texts))

length-readings : (d : DataLists) → length (readings d) ≡ length d.words
length-readings d = length-map d.words _

length-in_turn : (d : DataLists) (base : List ℕ) → length (in_turn d base) ≡ count d base
length-in_turn d base =
    length_permutation _ _ (in_order-IsPermutation costs_less (map (priced d) (rows_with_prefix (readings d) base))) ∙ length-map (rows_with_prefix (readings d) base) (priced d)

-- an empty base has none
pub no-base : (d : DataLists) (history : List Pair) (base : List ℕ) → length base ≡ 0 → [] ≡ suggestions d history base
unfolding suggestions
no-base d history [] none = refl
no-base d history (c ∷ base) none = absurd (omega (arith, none))

-- each word that is found is there
All-cheapest : (d : DataLists) (most : ℕ) (base : List ℕ) → All (λ (word : PricedRow). word.row < length d.words) (cheapest d most (rows_with_prefix (readings d) base))
All-cheapest d most base =
    let long = length-readings d in
    let rows : All (λ row. row < length d.words) (rows_with_prefix (readings d) base) = λ k e inside. (let here = All-places (λ text. starts_with nat_eq text base) (readings d) k e inside in omega (arith, long, here)) in
    let all = recursion_from_All (λ (word : PricedRow). word.row < length d.words) _ (All-map (λ (word : PricedRow). word.row < length d.words) (priced d) (rows_with_prefix (readings d) base) rows) in
    All-take (λ (word : PricedRow). word.row < length d.words) most (in_turn d base) (All-from_recursion (λ (word : PricedRow). word.row < length d.words) (in_turn d base) (in_order-All costs_less (λ word. word.row < length d.words) _ all))

-- a slice of what a search found
pub slice-cheapest : (d : DataLists) (most : ℕ) (base : List ℕ) (words found : List PricedRow) → words ≡ found → found ≡ cheapest d most (rows_with_prefix (readings d) base) → words ≡ cheapest d most (rows_with_prefix (readings d) base)
slice-cheapest d most base words found is found_is = is ∙ found_is

pub rows-there : (d : DataLists) (most : ℕ) (base : List ℕ) (words : List PricedRow) → words ≡ cheapest d most (rows_with_prefix (readings d) base) → All (λ (word : PricedRow). word.row < length d.words) words
rows-there d most base words is =
    subst (λ found. All (λ (word : PricedRow). word.row < length d.words) found) (sym is) (All-cheapest d most base)

-- where as many words came as were asked for, more than these come the next time, or all
pub words-less : (d : DataLists) (most : ℕ) (base : List ℕ) (words : List PricedRow) → words ≡ cheapest d most (rows_with_prefix (readings d) base) → most ≤ length words → 0 < most → count d base + 1 - most * 8 < count d base + 1 - most
words-less d most base words is came some =
    let cut = length-take most (in_turn d base) in
    let long = length-in_turn d base in
    let found = ap (λ xs. length xs) is in
    omega (arith, cut, long, found, came, some)

cut-offered : (d : DataLists) (most : ℕ) (base : List ℕ) → map (word_pair d) (cheapest d most (rows_with_prefix (readings d) base)) ≡ take most (offered d base)
cut-offered d most base = sym (take-map (word_pair d) most (in_turn d base))

all-came : (d : DataLists) (history : List Pair) (base : List ℕ) (most : ℕ) → 0 < length base → length (cheapest d most (rows_with_prefix (readings d) base)) < most → distinct (recalled history base ++ map (word_pair d) (cheapest d most (rows_with_prefix (readings d) base))) ≡ suggestions d history base
unfolding suggestions
all-came d history [] most some few = absurd (omega arith)
all-came d history (c ∷ base) most some few =
    let cut = length-take most (in_turn d (c ∷ base)) in
    ap (λ words. distinct (recalled history (c ∷ base) ++ map (word_pair d) words)) (take_all most (in_turn d (c ∷ base)) (omega (arith, cut, few)))

enough-came : (d : DataLists) (history : List Pair) (base : List ℕ) (most : ℕ) → 0 < length base → MOST_SUGGESTIONS ≤ length (distinct (recalled history base ++ map (word_pair d) (cheapest d most (rows_with_prefix (readings d) base)))) → distinct (recalled history base ++ map (word_pair d) (cheapest d most (rows_with_prefix (readings d) base))) ≡ suggestions d history base
unfolding suggestions
enough-came d history [] most some enough = absurd (omega arith)
enough-came d history (c ∷ base) most some enough =
    let front = recalled history (c ∷ base) ++ take most (offered d (c ∷ base)) in
    let same = ap (λ words. recalled history (c ∷ base) ++ words) (cut-offered d most (c ∷ base)) in
    let long : MOST_SUGGESTIONS ≤ length (firsts means_other front) = enough-first MOST_SUGGESTIONS _ front same enough in
    let whole : front ++ drop most (offered d (c ∷ base)) ≡ recalled history (c ∷ base) ++ offered d (c ∷ base) = append_assoc (recalled history (c ∷ base)) (take most (offered d (c ∷ base))) (drop most (offered d (c ∷ base))) ∙ ap (λ words. recalled history (c ∷ base) ++ words) (take-append-drop most (offered d (c ∷ base))) in
    ap (λ pairs. distinct pairs) same
    ∙ (sym (firsts-enough means_other MOST_SUGGESTIONS front (drop most (offered d (c ∷ base))) long) ∙ ap (λ pairs. distinct pairs) whole)
  where
    enough-first : (n : ℕ) (pairs front : List Pair) → pairs ≡ front → n ≤ length (take n (firsts means_other pairs)) → n ≤ length (firsts means_other front)
    enough-first n pairs front same enough =
        let cut = length-take n (firsts means_other pairs) in
        let is = ap (λ xs. length (firsts means_other xs)) same in
        omega (arith, cut, is, enough)

-- where fewer words came than were asked for, these are all
pub answer-all : (d : DataLists) (history : List Pair) (base : List ℕ) (most : ℕ) (words : List PricedRow) (pairs : List Pair) → 0 < length base → words ≡ cheapest d most (rows_with_prefix (readings d) base) → pairs ≡ distinct (recalled history base ++ map (word_pair d) words) → length words < most → pairs ≡ suggestions d history base
answer-all d history base most words pairs some words_are pairs_are few =
    let long = ap (λ xs. length xs) words_are in
    pairs_are ∙ (ap (λ found. distinct (recalled history base ++ map (word_pair d) found)) words_are ∙ all-came d history base most some (omega (arith, long, few)))

-- where there are suggestions enough, further words add none
pub answer-enough : (d : DataLists) (history : List Pair) (base : List ℕ) (most : ℕ) (words : List PricedRow) (pairs : List Pair) → 0 < length base → words ≡ cheapest d most (rows_with_prefix (readings d) base) → pairs ≡ distinct (recalled history base ++ map (word_pair d) words) → MOST_SUGGESTIONS ≤ length pairs → pairs ≡ suggestions d history base
answer-enough d history base most words pairs some words_are pairs_are enough =
    let is = pairs_are ∙ ap (λ found. distinct (recalled history base ++ map (word_pair d) found)) words_are in
    let long = ap (λ xs. length xs) is in
    is ∙ enough-came d history base most some (omega (arith, long, enough))
