-- What is pending waits for more, and so does a front of it. More that is typed changes no kana.
use Rattle.std.proofs.Common.{◌≡◌, ℕ, ◌≤◌, ◌<◌, zero, suc, Bool, true, false, ◌&&◌, ◌||◌, ◌==◌, cond, List, [], ◌∷◌, ◌++◌, Option, Some, None, length, take, drop, refl, sym, ap, ◌∙◌, subst, arith, append_assoc, length-append, length-take, nat_eq, nat_lt, IfSome}
use Rattle.std.proofs.Math.Seq.{take-append_seam}
use Rattle.std.proofs.lemmas.Bool.{false≢true, lt-ltb, ltb-true, ltb-false, ne_eqb, false_from_ne_true}
use Rattle.std.proofs.lemmas.Cmp.{nat_list_eq_equiv}
use Rattle.std.proofs.lemmas.List.{take-take, take-append-le, drop-append-le}
use Rattle.std.specs.Cmp.Lexicographic.{pointwise, same_text}
use Rattle.std.specs.List.{AllByRecursion}
use Rattle.mz_base.specs.Kana.{IsRule, Shown, after_output, fits, kana, is_open, longer, longest, opens, turn, waits}
use Rattle.mz_base.specs.declared.romaji.Rule.{Rule}
use Rattle.mz_base.proofs.Turns.{FitsRule, fits-length, kana-waits, kana-goes_on, longest-FitsRule, turn-shorter, waits-some}

by_cases : {A : Type 0} (b : Bool) → (b ≡ true → A) → (b ≡ false → A) → A
by_cases true holds fails = holds refl
by_cases false holds fails = fails refl

-- what is pending waits
pending-waits_within : (n : ℕ) (rules : List Rule) (text : List ℕ) → AllByRecursion IsRule rules → length text ≤ n → waits rules (kana rules text).pending ≡ true
pending-waits_within zero rules text each in_n =
    by_cases (waits rules text)
    (λ waiting. subst (λ shown. waits rules shown.pending ≡ true) (sym (kana-waits rules text waiting)) waiting)
    (λ going. let some : 0 < length text = waits-some rules text going in absurd (omega arith))
pending-waits_within (suc n) rules text each in_n =
    by_cases (waits rules text)
    (λ waiting. subst (λ shown. waits rules shown.pending ≡ true) (sym (kana-waits rules text waiting)) waiting)
    (λ going.
    let shorter : length (turn (longest rules text) text).pending < length text = turn-shorter rules text each (waits-some rules text going) in
    subst (λ shown. waits rules shown.pending ≡ true) (sym (kana-goes_on rules each text going))
    (pending-waits_within n rules (turn (longest rules text) text).pending each (omega arith)))

pub pending-waits : (rules : List Rule) (text : List ℕ) → AllByRecursion IsRule rules → waits rules (kana rules text).pending ≡ true
pending-waits rules text each = pending-waits_within (length text) rules text each (omega arith)

and-true : (a b : Bool) → (a && b) ≡ true → (a ≡ true) × (b ≡ true)
and-true true b told = (refl, told)
and-true false b told = absurd (false≢true told)

or-true : (a b : Bool) → b ≡ true → (a || b) ≡ true
or-true true b told = refl
or-true false b told = told

-- a front of a proper prefix is one
opens-front : (n : ℕ) (text : List ℕ) (rule : Rule) → n ≤ length text → opens text rule ≡ true → opens (take n text) rule ≡ true
opens-front n text rule inside told =
    let both : (pointwise nat_eq text (take (length text) rule.input) ≡ true) × (nat_lt (length text) (length rule.input) ≡ true) = and-true _ _ told in
    let same : text ≡ take (length text) rule.input = same_text text (take (length text) rule.input) (sym both.0) in
    let long : length (take n text) ≡ n = omega (arith, length-take n text) in
    let front : take n text ≡ take (length (take n text)) rule.input =
    ap (take n) same ∙ take-take n (length text) rule.input inside ∙ ap (λ m. take m rule.input) (sym long) in
    let begins : pointwise nat_eq (take n text) (take (length (take n text)) rule.input) ≡ true =
    subst (λ letters. pointwise nat_eq (take n text) letters ≡ true) front (nat_list_eq_equiv.refl (take n text)) in
    let less : nat_lt (length (take n text)) (length rule.input) ≡ true = lt-ltb _ _ (omega (arith, ltb-true _ _ both.1)) in
    ap (λ b. b && nat_lt (length (take n text)) (length rule.input)) begins ∙ less

is_open-front : (n : ℕ) (rules : List Rule) (text : List ℕ) → n ≤ length text → is_open rules text ≡ true → is_open rules (take n text) ≡ true
is_open-front n [] text inside told = told
is_open-front n (rule ∷ rules) text inside told =
    by_cases (opens text rule)
    (λ here. ap (λ b. b || is_open rules (take n text)) (opens-front n text rule inside here))
    (λ not_here. or-true (opens (take n text) rule) _ (is_open-front n rules text inside (sym (ap (λ b. b || is_open rules text) not_here) ∙ told)))

pub waits-front : (n : ℕ) (rules : List Rule) (text : List ℕ) → n ≤ length text → waits rules text ≡ true → waits rules (take n text) ≡ true
waits-front n rules [] inside told = subst (λ m. waits rules (take m []) ≡ true) (let none : 0 ≡ n = omega arith in none) refl
waits-front n rules (c ∷ text) inside told =
    let some : (length (c ∷ text) == 0) ≡ false = ne_eqb _ _ (λ none. omega arith) in
    or-true _ _ (is_open-front n rules (c ∷ text) inside (sym (ap (λ b. b || is_open rules (c ∷ text)) some) ∙ told))

-- more that is typed opens no rule that the text does not open
opens-more : (text more : List ℕ) (rule : Rule) → opens text rule ≡ false → opens (text ++ more) rule ≡ false
opens-more text more rule shut =
    false_from_ne_true (opens (text ++ more) rule) (λ told.
    let front : opens (take (length text) (text ++ more)) rule ≡ true = opens-front (length text) (text ++ more) rule (omega (arith, length-append text more)) told in
    false≢true (sym shut ∙ subst (λ front. opens front rule ≡ true) (take-append_seam text more) front))

-- a rule that the text does not open fits the text with more exactly where it fits the text
fits-more : (text more : List ℕ) (rule : Rule) → opens text rule ≡ false → fits (text ++ more) rule ≡ fits text rule
fits-more text more rule shut =
    by_cases (nat_lt (length text) (length rule.input))
    (λ long.
    let longer : length text < length rule.input = ltb-true _ _ long in
    let not_more : fits (text ++ more) rule ≡ false = false_from_ne_true (fits (text ++ more) rule) (λ told.
    let same : rule.input ≡ take (length rule.input) (text ++ more) = same_text rule.input (take (length rule.input) (text ++ more)) (sym told) in
    let front : text ≡ take (length text) rule.input =
    sym (take-append_seam text more) ∙ sym (take-take (length text) (length rule.input) (text ++ more) (omega arith)) ∙ ap (take (length text)) (sym same) in
    let begins : pointwise nat_eq text (take (length text) rule.input) ≡ true = subst (λ letters. pointwise nat_eq text letters ≡ true) front (nat_list_eq_equiv.refl text) in
    false≢true (sym shut ∙ ap (λ b. b && nat_lt (length text) (length rule.input)) begins ∙ long)) in
    let not_less : fits text rule ≡ false = false_from_ne_true (fits text rule) (λ told.
    let short : length rule.input ≤ length text = fits-length text rule told in omega arith) in
    not_more ∙ sym not_less)
    (λ short.
    let inside : length rule.input ≤ length text = ltb-false _ _ short in
    ap (pointwise nat_eq rule.input) (take-append-le (length rule.input) text more inside))

or-false : (a b : Bool) → (a || b) ≡ false → (a ≡ false) × (b ≡ false)
or-false true b told = absurd (false≢true (sym told))
or-false false b told = (refl, told)

is_open-more : (rules : List Rule) (text more : List ℕ) → is_open rules text ≡ false → is_open rules (text ++ more) ≡ false
is_open-more [] text more shut = refl
is_open-more (rule ∷ rules) text more shut =
    let both : (opens text rule ≡ false) × (is_open rules text ≡ false) = or-false _ _ shut in
    ap (λ b. b || is_open rules (text ++ more)) (opens-more text more rule both.0) ∙ is_open-more rules text more both.1

longest-more : (rules : List Rule) (text more : List ℕ) → is_open rules text ≡ false → longest rules (text ++ more) ≡ longest rules text
longest-more [] text more shut = refl
longest-more (rule ∷ rules) text more shut =
    let both : (opens text rule ≡ false) × (is_open rules text ≡ false) = or-false _ _ shut in
    ap (λ b. cond b (longer rule (longest rules (text ++ more))) (longest rules (text ++ more))) (fits-more text more rule both.0)
    ∙ ap (λ found. cond (fits text rule) (longer rule found) found) (longest-more rules text more both.1)

-- a turn leaves more behind what it left
turn-more : (found : Option Rule) (text more : List ℕ) → IfSome found (FitsRule text) → 0 < length text → turn found (text ++ more) ≡ record { output = (turn found text).output; pending = (turn found text).pending ++ more }
turn-more None [] more given some = absurd (omega arith)
turn-more None (c ∷ text) more given some = refl
turn-more (Some rule) text more given some =
    let inside : length rule.input ≤ length text = fits-length text rule given.is_prefix in
    let rest : rule.pending ++ drop (length rule.input) (text ++ more) ≡ (rule.pending ++ drop (length rule.input) text) ++ more =
    ap (λ letters. rule.pending ++ letters) (drop-append-le (length rule.input) text more inside)
    ∙ sym (append_assoc rule.pending (drop (length rule.input) text) more) in
    ap (λ pending. let step : Shown = record { output = rule.output; pending = pending } in step) rest

-- an output before an output
pub after_output-after_output : (a b : List ℕ) (shown : Shown) → after_output (a ++ b) shown ≡ after_output a (after_output b shown)
after_output-after_output a b shown =
    ap (λ output. let s : Shown = record { output = output; pending = shown.pending } in s) (append_assoc a b shown.output)

module _ (rules : List Rule) (each : AllByRecursion IsRule rules) (more : List ℕ) where
  -- the kana of the text stay, and what is pending goes on with more
  abbrev Grows : List ℕ → Shown → Type 0
  Grows text shown = kana rules (text ++ more) ≡ after_output shown.output (kana rules (shown.pending ++ more))

  waiting-grows : (text : List ℕ) → waits rules text ≡ true → Grows text (kana rules text)
  waiting-grows text waiting = subst (Grows text) (sym (kana-waits rules text waiting)) refl

  kana-more_within : (n : ℕ) (text : List ℕ) → length text ≤ n → Grows text (kana rules text)
  kana-more_within zero text in_n =
      by_cases (waits rules text) (waiting-grows text)
      (λ going. let some : 0 < length text = waits-some rules text going in absurd (omega arith))
  kana-more_within (suc n) text in_n =
      by_cases (waits rules text) (waiting-grows text)
      (λ going.
      let some : 0 < length text = waits-some rules text going in
      let shorter : length (turn (longest rules text) text).pending < length text = turn-shorter rules text each some in
      let shut : is_open rules text ≡ false = (or-false (length text == 0) (is_open rules text) going).1 in
      let going_more : waits rules (text ++ more) ≡ false =
      ap (λ b. b || is_open rules (text ++ more)) (ne_eqb (length (text ++ more)) 0 (λ none. omega (arith, length-append text more))) ∙ is_open-more rules text more shut in
      let same_turn : turn (longest rules (text ++ more)) (text ++ more) ≡ record { output = (turn (longest rules text) text).output; pending = (turn (longest rules text) text).pending ++ more } =
      ap (λ found. turn found (text ++ more)) (longest-more rules text more shut)
      ∙ turn-more (longest rules text) text more (longest-FitsRule rules text each) some in
      subst (Grows text) (sym (kana-goes_on rules each text going))
      (kana-goes_on rules each (text ++ more) going_more
      ∙ ap (λ (step : Shown). after_output step.output (kana rules step.pending)) same_turn
      ∙ ap (after_output (turn (longest rules text) text).output) (kana-more_within n (turn (longest rules text) text).pending (omega arith))
      ∙ sym (after_output-after_output (turn (longest rules text) text).output (kana rules (turn (longest rules text) text).pending).output (kana rules ((kana rules (turn (longest rules text) text).pending).pending ++ more)))))

-- more that is typed changes no kana: what is pending goes on with it
pub kana-more : (rules : List Rule) (text more : List ℕ) → AllByRecursion IsRule rules → kana rules (text ++ more) ≡ after_output (kana rules text).output (kana rules ((kana rules text).pending ++ more))
kana-more rules text more each = kana-more_within rules each more (length text) text (omega arith)
