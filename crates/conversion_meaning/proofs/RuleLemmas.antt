-- What rules keep: no value comes twice, and a list that has a value has one.
use Rattle.std.proofs.Common.{◌≡◌, refl, sym, ap, ◌∙◌, subst, ℕ, ◌<◌, ◌==◌, Bool, true, false, not, cond, inl, inr, List, [], ◌∷◌, ◌++◌, Option, Some, None, length, arith}
use Rattle.std.specs.Prelude.{◌≢◌, filter}
use Rattle.std.specs.List.{list_any}
use Rattle.std.proofs.lemmas.Cmp.{nat_list_eq_equiv}
use Rattle.std.proofs.lemmas.List.Folds.{list_any_at}
use Rattle.mz_base.specs.Data.{is_text}
use Rattle.mz_base.specs.declared.lattice.Candidate.{Candidate}
use Rattle.mz_base.specs.declared.lattice.Pair.{Pair}
use Rattle.conversion_meaning.specs.Rules.{Asked, chosen_before, is_value, put_first, rewritten, rewritten_by, values_by, with_value, with_values}
use Rattle.conversion_meaning.proofs.AllPathsLemmas.{Rises-filter}
use Rattle.conversion_meaning.proofs.Lists.{Among, Among-append_left, Among-append_right, Among-filter, Rises, Rises-append, from_filter, place_of}

-- ---- No value twice

abbrev pub AreOnce : List Candidate → Type 0
AreOnce list = Rises (λ (candidate later : Candidate). candidate.value ≢ later.value) list

abbrev added : List ℕ → Candidate
added value = record { value = value; cost = None }

AreOnce-with_value : (list : List Candidate) (value : List ℕ) → AreOnce list → AreOnce (with_value list value)
AreOnce-with_value list value once = by_test (list_any (is_value value) list) refl
  where
    others : list_any (is_value value) list ≡ false → (x y : Candidate) → Among x list → Among y (added value ∷ []) → x.value ≢ y.value
    others none x y h (inl is) same =
        let r = place_of x list h in
        let its : value ≡ x.value = ap (λ (c : Candidate). c.value) is ∙ sym same in
        let itself : is_text value value ≡ true = nat_list_eq_equiv.refl value in
        let passes : is_value value x ≡ true = subst (λ v. is_text value v ≡ true) its itself in
        let at = subst (λ (c : Candidate). is_value value c ≡ true) (sym (r.2 x)) passes in
        let found = list_any_at (is_value value) list r.0 x r.1 at in
        let clash : false ≡ true = sym none ∙ found in
        cc
    others none x y h (inr k) same = k

    by_test : (t : Bool) → list_any (is_value value) list ≡ t → AreOnce (cond t list (list ++ added value ∷ []))
    by_test true is = once
    by_test false is =
        Rises-append (λ (candidate later : Candidate). candidate.value ≢ later.value) list (added value ∷ []) once (λ y k. absurd k, tt) (others is)

AreOnce-with_values : (values : List (List ℕ)) (list : List Candidate) → AreOnce list → AreOnce (with_values list values)
AreOnce-with_values [] list once = once
AreOnce-with_values (value ∷ values) list once =
    AreOnce-with_values values (with_value list value) (AreOnce-with_value list value once)

AreOnce-put_first : (found : Option Pair) (list : List Candidate) → AreOnce list → AreOnce (put_first found list)
AreOnce-put_first None list once = once
AreOnce-put_first (Some pair) list once =
    Rises-append Other (filter (is_value pair.value) list) (filter (λ candidate. not (is_value pair.value candidate)) list) (Rises-filter Other (is_value pair.value) list once) (Rises-filter Other (λ candidate. not (is_value pair.value candidate)) list once) across
  where
    Other : Candidate → Candidate → Type 0
    Other candidate later = candidate.value ≢ later.value

    across : (x y : Candidate) → Among x (filter (is_value pair.value) list) → Among y (filter (λ candidate. not (is_value pair.value candidate)) list) → Other x y
    across x y h k same =
        let first : is_text pair.value x.value ≡ true = (from_filter (is_value pair.value) x list h).1 in
        let second : not (is_text pair.value y.value) ≡ true = (from_filter (λ candidate. not (is_value pair.value candidate)) y list k).1 in
        let moved : not (is_text pair.value x.value) ≡ true = subst (λ v. not (is_text pair.value v) ≡ true) (sym same) second in
        let clash : false ≡ true = sym (ap not first) ∙ moved in
        cc

AreOnce-rewritten : (rule : ℕ) (ask : Asked) (list : List Candidate) → AreOnce list → AreOnce (rewritten rule ask list)
unfolding rewritten
AreOnce-rewritten rule ask list once = by_test (rule == 1)
  where
    by_test : (t : Bool) → AreOnce (cond t (put_first (chosen_before ask list) list) (with_values list (values_by rule ask list)))
    by_test true = AreOnce-put_first (chosen_before ask list) list once
    by_test false = AreOnce-with_values (values_by rule ask list) list once

pub AreOnce-rewritten_by : (rules : List ℕ) (ask : Asked) (list : List Candidate) → AreOnce list → AreOnce (rewritten_by rules ask list)
AreOnce-rewritten_by [] ask list once = once
AreOnce-rewritten_by (rule ∷ rules) ask list once =
    AreOnce-rewritten_by rules ask (rewritten rule ask list) (AreOnce-rewritten rule ask list once)

-- ---- Some value

pub among-some : {X : Type 0} (x : X) (xs : List X) → Among x xs → 0 < length xs
among-some x [] h = absurd h
among-some x (y ∷ xs) h = omega arith

pub some-among : {X : Type 0} (xs : List X) → 0 < length xs → (x : X) × Among x xs
some-among [] h = absurd (omega arith)
some-among (x ∷ xs) h = (x, inl refl)

append-some : {X : Type 0} (xs ys : List X) → 0 < length xs → 0 < length (xs ++ ys)
append-some [] ys h = absurd (omega arith)
append-some (x ∷ xs) ys h = omega arith

some-with_value : (list : List Candidate) (value : List ℕ) → 0 < length list → 0 < length (with_value list value)
some-with_value list value some = by_test (list_any (is_value value) list)
  where
    by_test : (t : Bool) → 0 < length (cond t list (list ++ added value ∷ []))
    by_test true = some
    by_test false = append-some list (added value ∷ []) some

some-with_values : (values : List (List ℕ)) (list : List Candidate) → 0 < length list → 0 < length (with_values list values)
some-with_values [] list some = some
some-with_values (value ∷ values) list some =
    some-with_values values (with_value list value) (some-with_value list value some)

some-put_first : (found : Option Pair) (list : List Candidate) → 0 < length list → 0 < length (put_first found list)
some-put_first None list some = some
some-put_first (Some pair) list some =
    let r = some-among list some in
    by_test r.0 r.1 (is_value pair.value r.0) refl
  where
    by_test : (x : Candidate) → Among x list → (t : Bool) → is_value pair.value x ≡ t → 0 < length (filter (is_value pair.value) list ++ filter (λ candidate. not (is_value pair.value candidate)) list)
    by_test x h true is =
        among-some x _ (Among-append_left x (filter (is_value pair.value) list) (filter (λ candidate. not (is_value pair.value candidate)) list) (Among-filter (is_value pair.value) x list is h))
    by_test x h false is =
        among-some x _ (Among-append_right x (filter (is_value pair.value) list) (filter (λ candidate. not (is_value pair.value candidate)) list) (Among-filter (λ candidate. not (is_value pair.value candidate)) x list (ap not is) h))

some-rewritten : (rule : ℕ) (ask : Asked) (list : List Candidate) → 0 < length list → 0 < length (rewritten rule ask list)
unfolding rewritten
some-rewritten rule ask list some = by_test (rule == 1)
  where
    by_test : (t : Bool) → 0 < length (cond t (put_first (chosen_before ask list) list) (with_values list (values_by rule ask list)))
    by_test true = some-put_first (chosen_before ask list) list some
    by_test false = some-with_values (values_by rule ask list) list some

pub some-rewritten_by : (rules : List ℕ) (ask : Asked) (list : List Candidate) → 0 < length list → 0 < length (rewritten_by rules ask list)
some-rewritten_by [] ask list some = some
some-rewritten_by (rule ∷ rules) ask list some =
    some-rewritten_by rules ask (rewritten rule ask list) (some-rewritten rule ask list some)
