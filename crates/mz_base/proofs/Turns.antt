-- Each turn shortens the text, so more turns than the text is long change nothing.
use Rattle.std.proofs.Common.{◌≡◌, ℕ, ◌≤◌, ◌<◌, zero, suc, Bool, true, false, List, [], ◌∷◌, ◌++◌, Option, Some, None, length, refl, sym, ap, ◌∙◌, arith, take, drop, length-take, length-drop, length-append, IfSome, ◌==◌, ◌||◌, eq-eqb, ◌≢◌}
use Rattle.std.specs.Cmp.Lexicographic.{same_text}
use Rattle.std.specs.List.{AllByRecursion}
use Rattle.std.proofs.lemmas.Bool.{cond-true, cond-false, false≢true, ne_eqb, eqb-true, eqb-false}
use Rattle.mz_base.specs.Kana.{fits, longest, turn, waits, is_open, kana, kana_within, finish, finish_within, after_output, IsRule}
use Rattle.mz_base.specs.declared.romaji.Rule.{Rule}
use Rattle.mz_base.proofs.Found.{longest-holds}

-- a rule that fits the text
pub record FitsRule (text : List ℕ) (rule : Rule) : Type 0 where
  pub is_rule : IsRule rule
  pub is_prefix : fits text rule ≡ true

each-fits : (rules : List Rule) (text : List ℕ) → AllByRecursion IsRule rules → AllByRecursion (λ rule. fits text rule ≡ true → FitsRule text rule) rules
each-fits [] text each = tt
each-fits (rule ∷ rules) text each =
    ((λ fit. record { is_rule = each.0; is_prefix = fit }), each-fits rules text each.1)

pub longest-FitsRule : (rules : List Rule) (text : List ℕ) → AllByRecursion IsRule rules → IfSome (longest rules text) (FitsRule text)
longest-FitsRule rules text each = longest-holds (FitsRule text) rules text (each-fits rules text each)

-- the input of a rule that fits is no longer than the text
pub fits-length : (text : List ℕ) (rule : Rule) → fits text rule ≡ true → length rule.input ≤ length text
fits-length text rule fit =
    let same : rule.input ≡ take (length rule.input) text = same_text rule.input (take (length rule.input) text) (sym fit) in
    omega (arith, ap length same, length-take (length rule.input) text)

turn-shortens : (found : Option Rule) (text : List ℕ) → IfSome found (FitsRule text) → 0 < length text → length (turn found text).pending < length text
turn-shortens None text given some = omega (arith, length-drop 1 text)
turn-shortens (Some rule) text given some =
    omega (arith, length-append rule.pending (drop (length rule.input) text), length-drop (length rule.input) text, fits-length text rule given.is_prefix, given.is_rule.shorter)

-- what a turn goes on with is shorter
pub turn-shorter : (rules : List Rule) (text : List ℕ) → AllByRecursion IsRule rules → 0 < length text → length (turn (longest rules text) text).pending < length text
turn-shorter rules text each some =
    turn-shortens (longest rules text) text (longest-FitsRule rules text each) some

by_cases : {A : Type 0} (b : Bool) → (b ≡ true → A) → (b ≡ false → A) → A
by_cases true holds fails = holds refl
by_cases false holds fails = fails refl

empty-waits : (rules : List Rule) (text : List ℕ) → length text ≡ 0 → waits rules text ≡ true
empty-waits rules text empty = ap (λ n. (n == 0) || is_open rules text) empty

-- a text that goes on is not empty
pub waits-some : (rules : List Rule) (text : List ℕ) → waits rules text ≡ false → 0 < length text
waits-some rules [] going = absurd (false≢true (sym going))
waits-some rules (c ∷ text) going = omega arith

kana_within-waits : (n : ℕ) (rules : List Rule) (text : List ℕ) → waits rules text ≡ true → kana_within n rules text ≡ record { output = []; pending = text }
kana_within-waits zero rules text waiting = refl
kana_within-waits (suc n) rules text waiting = cond-true (waits rules text) _ _ waiting

-- nothing is typed, or more may come
pub kana-waits : (rules : List Rule) (text : List ℕ) → waits rules text ≡ true → kana rules text ≡ record { output = []; pending = text }
unfolding kana
kana-waits rules text waiting = kana_within-waits (length text) rules text waiting

module _ (rules : List Rule) (each : AllByRecursion IsRule rules) where
  -- the text after a turn
  abbrev after : List ℕ → List ℕ
  after text = (turn (longest rules text) text).pending

  -- what a turn gives
  abbrev gives : List ℕ → List ℕ
  gives text = (turn (longest rules text) text).output

  kana_within-goes_on : (n : ℕ) (text : List ℕ) → waits rules text ≡ false → kana_within (suc n) rules text ≡ after_output (gives text) (kana_within n rules (after text))
  kana_within-goes_on n text going = cond-false (waits rules text) _ _ going

  kana_within-enough : (n m : ℕ) (text : List ℕ) → length text ≤ n → length text ≤ m → kana_within n rules text ≡ kana_within m rules text
  kana_within-enough zero m text in_n in_m =
      sym (kana_within-waits m rules text (empty-waits rules text (omega arith)))
  kana_within-enough (suc n) zero text in_n in_m =
      kana_within-waits (suc n) rules text (empty-waits rules text (omega arith))
  kana_within-enough (suc n) (suc m) text in_n in_m =
      by_cases (waits rules text)
      (λ waiting. kana_within-waits (suc n) rules text waiting ∙ sym (kana_within-waits (suc m) rules text waiting))
      (λ going.
      let shorter : length (after text) < length text = turn-shorter rules text each (waits-some rules text going) in
      kana_within-goes_on n text going
      ∙ ap (after_output (gives text)) (kana_within-enough n m (after text) (omega arith) (omega arith))
      ∙ sym (kana_within-goes_on m text going))

  pub kana-goes_on : (text : List ℕ) → waits rules text ≡ false → kana rules text ≡ after_output (gives text) (kana rules (after text))
  unfolding kana
  kana-goes_on text going =
      let shorter : length (after text) < length text = turn-shorter rules text each (waits-some rules text going) in
      kana_within-enough (length text) (suc (length text)) text (omega arith) (omega arith)
      ∙ kana_within-goes_on (length text) text going
      ∙ ap (after_output (gives text)) (kana_within-enough (length text) (length (after text)) (after text) (omega arith) (omega arith))

  finish_within-ends : (n : ℕ) (text : List ℕ) → length text ≡ 0 → finish_within n rules text ≡ []
  finish_within-ends zero text empty = refl
  finish_within-ends (suc n) text empty = cond-true (length text == 0) _ _ (eq-eqb (length text) 0 empty)

  finish_within-goes_on : (n : ℕ) (text : List ℕ) → 0 < length text → finish_within (suc n) rules text ≡ gives text ++ finish_within n rules (after text)
  finish_within-goes_on n text some = cond-false (length text == 0) _ _ (ne_eqb (length text) 0 (omega arith))

  finish_within-enough : (n m : ℕ) (text : List ℕ) → length text ≤ n → length text ≤ m → finish_within n rules text ≡ finish_within m rules text
  finish_within-enough zero m text in_n in_m = sym (finish_within-ends m text (omega arith))
  finish_within-enough (suc n) zero text in_n in_m = finish_within-ends (suc n) text (omega arith)
  finish_within-enough (suc n) (suc m) text in_n in_m =
      by_cases (length text == 0)
      (λ is_zero.
      let empty : length text ≡ 0 = eqb-true (length text) 0 is_zero in
      finish_within-ends (suc n) text empty ∙ sym (finish_within-ends (suc m) text empty))
      (λ not_zero.
      let not_empty : length text ≢ 0 = eqb-false (length text) 0 not_zero in
      let some : 0 < length text = omega arith in
      let shorter : length (after text) < length text = turn-shorter rules text each some in
      finish_within-goes_on n text some
      ∙ ap (λ rest. gives text ++ rest) (finish_within-enough n m (after text) (omega arith) (omega arith))
      ∙ sym (finish_within-goes_on m text some))

  pub finish-goes_on : (text : List ℕ) → 0 < length text → finish rules text ≡ gives text ++ finish rules (after text)
  unfolding finish
  finish-goes_on text some =
      let shorter : length (after text) < length text = turn-shorter rules text each some in
      finish_within-enough (length text) (suc (length text)) text (omega arith) (omega arith)
      ∙ finish_within-goes_on (length text) text some
      ∙ ap (λ rest. gives text ++ rest) (finish_within-enough (length text) (length (after text)) (after text) (omega arith) (omega arith))
