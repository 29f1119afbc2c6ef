-- What the folds of characters make of what they made.
use Rattle.std.proofs.Common.{◌≡◌, ℕ, List, [], ◌∷◌, ◌++◌, map, find, Option, Some, None, Bool, true, false, ◌&&◌, refl, ◌∙◌, ap, subst, arith, option_to_list}
use Rattle.std.proofs.lemmas.Bool.{false≢true, cond_both}
use Rattle.std.proofs.lemmas.Bool.Decides.{nat_tests}
use Rattle.std.proofs.lemmas.Grind.{flat_map-append}
use Rattle.std.specs.List.{flat_map, list_all}
use Rattle.mz_base.specs.Folds.{katakana_of, hiragana_of, full_width_of, is_full, row_of, row_text, found_text, half_of, katakana, hiragana, full_width, half_width}
use Rattle.mz_base.specs.declared.folds.HalfRow.{HalfRow}
use Rattle.mz_base.specs.declared.half_rows.TheConstants.{HALF_ROWS}

katakana_of-again : (c : ℕ) → katakana_of (katakana_of c) ≡ katakana_of c
katakana_of-again c = grind (arith, nat_tests)

hiragana_of-again : (c : ℕ) → hiragana_of (hiragana_of c) ≡ hiragana_of c
hiragana_of-again c = grind (arith, nat_tests)

full_width_of-again : (c : ℕ) → full_width_of (full_width_of c) ≡ full_width_of c
full_width_of-again c = grind (arith, nat_tests)

hiragana_of-katakana_of : (c : ℕ) → hiragana_of (katakana_of c) ≡ hiragana_of c
hiragana_of-katakana_of c = grind (arith, nat_tests)

katakana_of-hiragana_of : (c : ℕ) → katakana_of (hiragana_of c) ≡ katakana_of c
katakana_of-hiragana_of c = grind (arith, nat_tests)

map-twice : (f g h : ℕ → ℕ) → ((c : ℕ) → f (g c) ≡ h c) → (text : List ℕ) → map f (map g text) ≡ map h text
map-twice f g h each [] = refl
map-twice f g h each (c ∷ text) = ap (λ x. x ∷ map f (map g text)) (each c) ∙ ap (λ xs. h c ∷ xs) (map-twice f g h each text)

pub katakana-again : (text : List ℕ) → katakana (katakana text) ≡ katakana text
katakana-again = map-twice katakana_of katakana_of katakana_of katakana_of-again

pub hiragana-again : (text : List ℕ) → hiragana (hiragana text) ≡ hiragana text
hiragana-again = map-twice hiragana_of hiragana_of hiragana_of hiragana_of-again

pub full_width-again : (text : List ℕ) → full_width (full_width text) ≡ full_width text
full_width-again = map-twice full_width_of full_width_of full_width_of full_width_of-again

pub hiragana-katakana : (text : List ℕ) → hiragana (katakana text) ≡ hiragana text
hiragana-katakana = map-twice hiragana_of katakana_of hiragana_of hiragana_of-katakana_of

pub katakana-hiragana : (text : List ℕ) → katakana (hiragana text) ≡ katakana text
katakana-hiragana = map-twice katakana_of hiragana_of katakana_of katakana_of-hiragana_of

abbrev has_no_row : Option HalfRow → Bool
has_no_row None = true
has_no_row (Some row) = false

abbrev mark_settled : Option ℕ → Bool
mark_settled None = true
mark_settled (Some mark) = has_no_row (row_of mark)

-- no character of the half width form has a row
abbrev is_settled : HalfRow → Bool
is_settled row = has_no_row (row_of row.half) && mark_settled row.mark

all-settled : list_all is_settled HALF_ROWS ≡ true
unfolding row_of
all-settled = refl

and-both : (a b : Bool) → (a && b) ≡ true → (a ≡ true) × (b ≡ true)
and-both true b told = (refl, told)
and-both false b told = absurd (false≢true told)

found-passes : (p q : HalfRow → Bool) (rows : List HalfRow) → list_all q rows ≡ true → (row : HalfRow) → find p rows ≡ Some row → q row ≡ true
found-passes p q [] each row is = absurd (cc)
found-passes p q (first ∷ rows) each row is =
    let both : (q first ≡ true) × (list_all q rows ≡ true) = and-both (q first) (list_all q rows) each in
    cond_both (p first) (Some first) (find p rows) (λ found. found ≡ Some row → q row ≡ true)
    (λ _ same. let e : first ≡ row = cc in subst (λ r. q r ≡ true) e both.0)
    (λ _ later. found-passes p q rows both.1 row later) is

settled : (row : HalfRow) (c : ℕ) → row_of c ≡ Some row → is_settled row ≡ true
unfolding row_of
settled row c is = found-passes (is_full c) is_settled HALF_ROWS all-settled row is

none-stays : (c : ℕ) → has_no_row (row_of c) ≡ true → half_of c ≡ c ∷ []
none-stays c none =
    elim (row_of c) as (λ found. has_no_row found ≡ true → found_text c found ≡ c ∷ []) [
      | None ↦ λ _. refl
      | Some row ↦ λ told. absurd (false≢true told)
    ] none

mark-stays : (mark : Option ℕ) → mark_settled mark ≡ true → flat_map half_of (option_to_list mark) ≡ option_to_list mark
mark-stays None told = refl
mark-stays (Some mark) told = ap (λ text. text ++ []) (none-stays mark told)

row_text-stays : (row : HalfRow) → is_settled row ≡ true → flat_map half_of (row_text row) ≡ row_text row
row_text-stays row told =
    let both : (has_no_row (row_of row.half) ≡ true) × (mark_settled row.mark ≡ true) = and-both _ _ told in
    ap (λ text. text ++ flat_map half_of (option_to_list row.mark)) (none-stays row.half both.0)
    ∙ ap (λ rest. row.half ∷ rest) (mark-stays row.mark both.1)

half_of-again : (c : ℕ) → flat_map half_of (half_of c) ≡ half_of c
half_of-again c =
    elim (row_of c) as (λ found. row_of c ≡ found → flat_map half_of (found_text c found) ≡ found_text c found) [
      | None ↦ λ is. ap (λ text. text ++ []) (none-stays c (ap has_no_row is))
      | Some row ↦ λ is. row_text-stays row (settled row c is)
    ] refl

pub half_width-again : (text : List ℕ) → half_width (half_width text) ≡ half_width text
half_width-again [] = refl
half_width-again (c ∷ text) =
    flat_map-append half_of (half_of c) (flat_map half_of text)
    ∙ ap (λ front. front ++ flat_map half_of (flat_map half_of text)) (half_of-again c)
    ∙ ap (λ rest. half_of c ++ rest) (half_width-again text)
