-- A rule from 2 to 6 that is applied again.
use Rattle.std.proofs.Common.{◌≡◌, refl, sym, ap, ◌∙◌, subst, ℕ, ◌+◌, ◌==◌, Bool, true, false, cond, inl, inr, ◌⊎◌, List, [], ◌∷◌, ◌++◌, map, if◌then◌else◌, length, arith}
use Rattle.std.specs.Prelude.{◌&&◌, ◌||◌, filter, nat_lt}
use Rattle.std.specs.List.{list_all, list_any}
use Rattle.std.proofs.lemmas.Bool.{false≢true}
use Rattle.std.proofs.lemmas.Bool.Decides.{nat_tests}
use Rattle.std.proofs.lemmas.Cmp.{nat_list_eq_equiv}
use Rattle.std.proofs.lemmas.List.Folds.{list_any-append}
use Rattle.mz_base.specs.Classes.{is_from}
use Rattle.mz_base.specs.Data.{kanji_rows, values_of}
use Rattle.mz_base.specs.Folds.{full_width, full_width_of}
use Rattle.mz_base.specs.declared.lattice.Candidate.{Candidate}
use Rattle.conversion_meaning.specs.Rules.{Asked, is_half, is_value, kana_values, number_values, rewritten, values_by, wide_values, with_value, with_values}
use Rattle.conversion_meaning.proofs.Lists.{Among, Among-append_cases, Among-filter, Among-map, from_filter, from_map}
use Rattle.rewrite_rules.specs.Laws.{AgainIsOnce}
use Rattle.rewrite_rules.proofs.AddLemmas.{added, rewritten-adds}

-- a candidate has this value
abbrev Has : List Candidate → List ℕ → Type 0
Has list value = list_any (is_value value) list ≡ true

-- ---- What is there stays, and what is added is there

Has-more : (list more : List Candidate) (value : List ℕ) → Has list value → Has (list ++ more) value
Has-more list more value has =
    list_any-append (is_value value) list more ∙ ap (λ b. b || list_any (is_value value) more) has

Has-one : (list : List Candidate) (value : List ℕ) → Has (list ++ added value ∷ []) value
Has-one list value =
    list_any-append (is_value value) list (added value ∷ []) ∙ (ap (λ b. list_any (is_value value) list || (b || false)) (nat_list_eq_equiv.refl value) ∙ or_true (list_any (is_value value) list))
  where
    or_true : (b : Bool) → (b || true) ≡ true
    or_true true = refl
    or_true false = refl

Has-with_value : (list : List Candidate) (value other : List ℕ) → Has list other → Has (with_value list value) other
Has-with_value list value other has = by_test (list_any (is_value value) list)
  where
    by_test : (b : Bool) → Has (cond b list (list ++ added value ∷ [])) other
    by_test true = has
    by_test false = Has-more list (added value ∷ []) other has

Has-with_values : (values : List (List ℕ)) (list : List Candidate) (other : List ℕ) → Has list other → Has (with_values list values) other
Has-with_values [] list other has = has
Has-with_values (value ∷ values) list other has =
    Has-with_values values (with_value list value) other (Has-with_value list value other has)

Has-itself : (list : List Candidate) (value : List ℕ) → Has (with_value list value) value
Has-itself list value = by_test (list_any (is_value value) list) refl
  where
    by_test : (b : Bool) → list_any (is_value value) list ≡ b → Has (cond b list (list ++ added value ∷ [])) value
    by_test true is = is
    by_test false is = Has-one list value

Has-added : (values : List (List ℕ)) (list : List Candidate) (value : List ℕ) → Among value values → Has (with_values list values) value
Has-added [] list value h = absurd h
Has-added (first ∷ values) list value (inl same) =
    Has-with_values values (with_value list first) value (subst (λ v. Has (with_value list first) v) same (Has-itself list first))
Has-added (first ∷ values) list value (inr h) = Has-added values (with_value list first) value h

-- values that are all there add nothing
stays : (values : List (List ℕ)) (list : List Candidate) → ((value : List ℕ) → Among value values → Has list value) → with_values list values ≡ list
stays [] list all = refl
stays (value ∷ values) list all =
    ap (λ b. with_values (cond b list (list ++ added value ∷ [])) values) (all value (inl refl)) ∙ stays values list (λ other h. all other (inr h))

-- a candidate stood in the list, or has one of the values
from_added : (values : List (List ℕ)) (list : List Candidate) (candidate : Candidate) → Among candidate (with_values list values) → Among candidate list ⊎ Among candidate.value values
from_added [] list candidate h = inl h
from_added (value ∷ values) list candidate h =
    by_place (from_added values (with_value list value) candidate h)
  where
    by_test : (b : Bool) → Among candidate (cond b list (list ++ added value ∷ [])) → Among candidate list ⊎ Among candidate.value (value ∷ values)
    by_test true k = inl k
    by_test false k =
        elim (Among-append_cases candidate list (added value ∷ []) k) [ inl a ↦ inl a | inr b ↦ elim b [ inl same ↦ inr (inl (ap (λ (x : Candidate). x.value) same)) | inr none ↦ absurd none ] ]

    by_place : Among candidate (with_value list value) ⊎ Among candidate.value values → Among candidate list ⊎ Among candidate.value (value ∷ values)
    by_place (inl k) = by_test (list_any (is_value value) list) k
    by_place (inr k) = inr (inr k)

-- ---- Full width is no half width

and_false : (b : Bool) → (b && false) ≡ false
and_false true = refl
and_false false = refl

and_right : (a b : Bool) → (a && b) ≡ true → b ≡ true
and_right true b is = is
and_right false b is = absurd (false≢true is)

and_left : (a b : Bool) → (a && b) ≡ true → a ≡ true
and_left true b is = refl
and_left false b is = is

wide-not_half : (c : ℕ) → is_from 0x21 0x7E c ≡ true → is_from 0x21 0x7E (full_width_of c) ≡ false
wide-not_half c is = ap (λ b. is_from 0x21 0x7E (if b then c + 0xFEE0 else (if c == 0x20 then 0x3000 else c))) is ∙ past c
  where
    past : (n : ℕ) → is_from 0x21 0x7E (n + 0xFEE0) ≡ false
    past n = grind (arith, nat_tests)

full_width-not_half : (text : List ℕ) → is_half text ≡ true → is_half (full_width text) ≡ false
full_width-not_half [] is = is_half-none is
  where
    is_half-none : is_half [] ≡ true → is_half [] ≡ false
    is_half-none h = refl
full_width-not_half (c ∷ text) is =
    let all = and_right (nat_lt 0 (length (c ∷ text))) (list_all (is_from 0x21 0x7E) (c ∷ text)) is in
    let first = and_left (is_from 0x21 0x7E c) (list_all (is_from 0x21 0x7E) text) all in
    let out = wide-not_half c first in
    ap (λ b. nat_lt 0 (length (full_width (c ∷ text))) && (b && list_all (is_from 0x21 0x7E) (full_width text))) out ∙ and_false (nat_lt 0 (length (full_width (c ∷ text))))

abbrev value_of : Candidate → List ℕ
value_of candidate = candidate.value

-- the half width values of the list that rule 4 made are those of the list that it found
wide-there : (list : List Candidate) (value : List ℕ) → Among value (wide_values (with_values list (wide_values list))) → Has (with_values list (wide_values list)) value
wide-there list value h =
    let made = with_values list (wide_values list) in
    let r = from_map full_width value (filter is_half (map value_of made)) h in
    let kept = from_filter is_half r.0 (map value_of made) r.1 in
    let of = from_map value_of r.0 made kept.0 in
    by_place r.0 r.2 kept.1 of.0 of.2 (from_added (wide_values list) list of.0 of.1)
  where
    by_place : (half : List ℕ) → full_width half ≡ value → is_half half ≡ true → (candidate : Candidate) → candidate.value ≡ half → Among candidate list ⊎ Among candidate.value (wide_values list) → Has (with_values list (wide_values list)) value
    by_place half makes is candidate same (inl k) =
        let there : Among half (map value_of list) = subst (λ v. Among v (map value_of list)) same (Among-map value_of candidate list k) in
        let wide = Among-map full_width half (filter is_half (map value_of list)) (Among-filter is_half half (map value_of list) is there) in
        Has-added (wide_values list) list value (subst (λ v. Among v (wide_values list)) makes wide)
    by_place half makes is candidate same (inr k) =
        let r = from_map full_width candidate.value (filter is_half (map value_of list)) k in
        let kept = from_filter is_half r.0 (map value_of list) r.1 in
        let out = full_width-not_half r.0 kept.1 in
        let its : full_width r.0 ≡ half = r.2 ∙ same in
        absurd (false≢true (sym out ∙ (ap is_half its ∙ is)))

-- ---- Each rule

abbrev chosen : Bool → Bool → Bool → Bool → Bool → Asked → List Candidate → List (List ℕ)
chosen two three four five six ask list =
    if two then kana_values ask.key else (if three then number_values ask.key else (if four then wide_values list else (if five then values_of ask.lists.symbols ask.key else (if six then values_of (kanji_rows ask.lists.kanji) ask.key else []))))

there : (two three four five six : Bool) (ask : Asked) (list : List Candidate) (value : List ℕ) → Among value (chosen two three four five six ask (with_values list (chosen two three four five six ask list))) → Has (with_values list (chosen two three four five six ask list)) value
there true three four five six ask list value h = Has-added (kana_values ask.key) list value h
there false true four five six ask list value h = Has-added (number_values ask.key) list value h
there false false true five six ask list value h = wide-there list value h
there false false false true six ask list value h = Has-added (values_of ask.lists.symbols ask.key) list value h
there false false false false true ask list value h =
    Has-added (values_of (kanji_rows ask.lists.kanji) ask.key) list value h
there false false false false false ask list value h = absurd h

pub again-once : AgainIsOnce
again-once rule ask list other =
    let made = with_values list (values_by rule ask list) in
    let once = rewritten-adds rule ask list other in
    let again = rewritten-adds rule ask made other in
    let same : with_values made (values_by rule ask made) ≡ made = stays (values_by rule ask made) made (there (rule == 2) (rule == 3) (rule == 4) (rule == 5) (rule == 6) ask list) in
    ap (rewritten rule ask) once ∙ (again ∙ (same ∙ sym once))
