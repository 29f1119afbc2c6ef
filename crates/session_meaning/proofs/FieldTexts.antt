-- Texts without tabs and line feeds: what lists, folds, numbers and the composer make of them.
use Rattle.std.proofs.Common.{◌≡◌, refl, subst, inl, inr, ℕ, zero, suc, ◌+◌, ◌-◌, ◌/◌, ◌%◌, Bool, true, false, cond, List, [], ◌∷◌, ◌++◌, map, take, drop, Option, Some, None, find, if◌then◌else◌, length, get_or, ◌==◌, arith}
use Rattle.std.specs.Prelude.{⊤, ◌&&◌, not, nat_lt}
use Rattle.std.specs.Fmt.{decimal, digit_glyph, digits, digits_onto}
use Rattle.std.specs.List.{All, flat_map, list_all}
use Rattle.std.proofs.lemmas.Bool.{false≢true}
use Rattle.std.proofs.lemmas.Bool.Decides.{nat_tests}
use Rattle.mz_base.specs.Classes.{is_from}
use Rattle.mz_base.specs.Folds.{found_text, full_width, full_width_of, half_of, half_width, is_full, katakana, katakana_of, row_of, row_text}
use Rattle.mz_base.specs.Kana.{Shown, after_output, finish, finish_within, fits, kana, kana_within, longer, longest, turn, waits}
use Rattle.mz_base.specs.declared.folds.HalfRow.{HalfRow}
use Rattle.mz_base.specs.declared.half_rows.TheConstants.{HALF_ROWS}
use Rattle.mz_base.specs.declared.romaji.Rule.{Rule}
use Rattle.composer.specs.Composing.{Composing, backspaced, deleted, front_of, inserted, moved_end, moved_home, moved_left, moved_right, preedit_of, reading_of, without_last}
use Rattle.conversion_meaning.proofs.CutLemmas.{from_all}
use Rattle.conversion_meaning.proofs.Lists.{All-from_among, Among, Among-append_cases, from_flat_map, from_map}
use Rattle.session_meaning.specs.Fields.{IsField, IsFieldCharacter, IsRuleField}

-- ---- Lists

-- each character of the text is one of a field
abbrev pub Plain : List ℕ → Type 0
Plain text = (c : ℕ) → Among c text → IsFieldCharacter c

-- each of the texts has such characters alone
abbrev pub PlainTexts : List (List ℕ) → Type 0
PlainTexts texts = (text : List ℕ) → Among text texts → Plain text

pub Plain-from_field : (text : List ℕ) → IsField text → Plain text
Plain-from_field text is c h = from_all IsFieldCharacter text is c h

pub IsField-from_plain : (text : List ℕ) → Plain text → IsField text
IsField-from_plain text plain = All-from_among IsFieldCharacter text plain

pub AreFields-from_plain : (texts : List (List ℕ)) → PlainTexts texts → All IsField texts
AreFields-from_plain texts plain = All-from_among IsField texts (λ text h. IsField-from_plain text (plain text h))

pub Plain-none : Plain []
Plain-none c h = absurd h

pub Plain-cons : (c : ℕ) (text : List ℕ) → IsFieldCharacter c → Plain text → Plain (c ∷ text)
Plain-cons c text first rest x (inl same) = subst IsFieldCharacter same first
Plain-cons c text first rest x (inr h) = rest x h

pub Plain-append : (xs ys : List ℕ) → Plain xs → Plain ys → Plain (xs ++ ys)
Plain-append xs ys one other c h = elim (Among-append_cases c xs ys h) [ inl a ↦ one c a | inr b ↦ other c b ]

pub from_take : {X : Type 0} (n : ℕ) (x : X) (xs : List X) → Among x (take n xs) → Among x xs
from_take zero x [] h = h
from_take zero x (y ∷ xs) h = absurd h
from_take (suc n) x [] h = h
from_take (suc n) x (y ∷ xs) (inl same) = inl same
from_take (suc n) x (y ∷ xs) (inr h) = inr (from_take n x xs h)

pub from_drop : {X : Type 0} (n : ℕ) (x : X) (xs : List X) → Among x (drop n xs) → Among x xs
from_drop zero x [] h = h
from_drop zero x (y ∷ xs) h = h
from_drop (suc n) x [] h = h
from_drop (suc n) x (y ∷ xs) h = inr (from_drop n x xs h)

pub Plain-take : (n : ℕ) (xs : List ℕ) → Plain xs → Plain (take n xs)
Plain-take n xs plain c h = plain c (from_take n c xs h)

pub Plain-drop : (n : ℕ) (xs : List ℕ) → Plain xs → Plain (drop n xs)
Plain-drop n xs plain c h = plain c (from_drop n c xs h)

pub Plain-map : (f : ℕ → ℕ) → ((c : ℕ) → IsFieldCharacter c → IsFieldCharacter (f c)) → (xs : List ℕ) → Plain xs → Plain (map f xs)
Plain-map f keeps xs plain c h =
    let r = from_map f c xs h in subst IsFieldCharacter r.2 (keeps r.0 (plain r.0 r.1))

pub Plain-flat_map : {X : Type 0} (f : X → List ℕ) (xs : List X) → ((x : X) → Among x xs → Plain (f x)) → Plain (flat_map f xs)
Plain-flat_map f xs each c h = let r = from_flat_map f c xs h in each r.0 r.1 c r.2

-- what holds of each item and of what stands for a missing one holds of what is read
pub read-holds : {X : Type 0} (P : X → Type 0) (xs : List X) (i : ℕ) (d : X) → ((x : X) → Among x xs → P x) → P d → P (get_or xs i d)
read-holds P [] i d each missing = missing
read-holds P (x ∷ xs) zero d each missing = each x (inl refl)
read-holds P (x ∷ xs) (suc i) d each missing = read-holds P xs i d (λ y h. each y (inr h)) missing

-- a text whose characters pass a test
abbrev is_field_character : ℕ → Bool
is_field_character c = not (c == 9) && not (c == 10)

from_test : (c : ℕ) → is_field_character c ≡ true → IsFieldCharacter c
from_test c is = (grind (arith, nat_tests), grind (arith, nat_tests))

and_left : (a b : Bool) → (a && b) ≡ true → a ≡ true
and_left true b is = refl
and_left false b is = is

and_right : (a b : Bool) → (a && b) ≡ true → b ≡ true
and_right true b is = is
and_right false b is = absurd (false≢true is)

pub Plain-tested : (text : List ℕ) → list_all is_field_character text ≡ true → Plain text
Plain-tested [] is = Plain-none
Plain-tested (c ∷ text) is =
    Plain-cons c text (from_test c (and_left (is_field_character c) (list_all is_field_character text) is)) (Plain-tested text (and_right (is_field_character c) (list_all is_field_character text) is))

-- ---- Folds

past_ten : (c n : ℕ) → IsFieldCharacter (c + (n + 11))
past_ten c n = (omega arith, omega arith)

field-katakana_of : (c : ℕ) → IsFieldCharacter c → IsFieldCharacter (katakana_of c)
field-katakana_of c is = by_test (is_from 0x3041 0x3096 c)
  where
    by_test : (b : Bool) → IsFieldCharacter (if b then c + 0x60 else c)
    by_test true = past_ten c 85
    by_test false = is

pub Plain-katakana : (text : List ℕ) → Plain text → Plain (katakana text)
Plain-katakana text plain = Plain-map katakana_of field-katakana_of text plain

field-full_width_of : (c : ℕ) → IsFieldCharacter c → IsFieldCharacter (full_width_of c)
field-full_width_of c is = by_test (is_from 0x21 0x7E c) (c == 0x20)
  where
    by_test : (b space : Bool) → IsFieldCharacter (if b then c + 0xFEE0 else (if space then 0x3000 else c))
    by_test true space = past_ten c 65237
    by_test false true = (omega arith, omega arith)
    by_test false false = is

pub Plain-full_width : (text : List ℕ) → Plain text → Plain (full_width text)
Plain-full_width text plain = Plain-map full_width_of field-full_width_of text plain

-- no row of the half width forms has another character
abbrev is_field_row : HalfRow → Bool
is_field_row row = list_all is_field_character (row_text row)

all-field_rows : list_all is_field_row HALF_ROWS ≡ true
all-field_rows = refl

Plain-found : (c : ℕ) → IsFieldCharacter c → (rows : List HalfRow) → list_all is_field_row rows ≡ true → Plain (found_text c (find (is_full c) rows))
Plain-found c is [] all = Plain-cons c [] is Plain-none
Plain-found c is (row ∷ rows) all =
    by_test (is_full c row) (Plain-found c is rows (and_right (is_field_row row) (list_all is_field_row rows) all))
  where
    by_test : (b : Bool) → Plain (found_text c (find (is_full c) rows)) → Plain (found_text c (cond b (Some row) (find (is_full c) rows)))
    by_test true rest = Plain-tested (row_text row) (and_left (is_field_row row) (list_all is_field_row rows) all)
    by_test false rest = rest

Plain-half_of : (c : ℕ) → IsFieldCharacter c → Plain (half_of c)
unfolding row_of
Plain-half_of c is = Plain-found c is HALF_ROWS all-field_rows

pub Plain-half_width : (text : List ℕ) → Plain text → Plain (half_width text)
Plain-half_width text plain = Plain-flat_map half_of text (λ c h. Plain-half_of c (plain c h))

-- ---- Numbers

field-glyph : (digit : ℕ) → IsFieldCharacter (digit_glyph false digit)
field-glyph digit = by_test (nat_lt digit 10)
  where
    by_test : (b : Bool) → IsFieldCharacter (if b then 48 + digit else 87 + digit)
    by_test true = (omega arith, omega arith)
    by_test false = (omega arith, omega arith)

Plain-digits_onto : (turns n : ℕ) (text : List ℕ) → Plain text → Plain (digits_onto turns 10 false n text)
Plain-digits_onto zero n text plain = plain
Plain-digits_onto (suc turns) n text plain =
    let more : Plain (digit_glyph false (n % 10) ∷ text) = Plain-cons (digit_glyph false (n % 10)) text (field-glyph (n % 10)) plain in
    let rest = Plain-digits_onto turns (n / 10) (digit_glyph false (n % 10) ∷ text) more in
    by_test more rest (n / 10 == 0)
  where
    by_test : Plain (digit_glyph false (n % 10) ∷ text) → Plain (digits_onto turns 10 false (n / 10) (digit_glyph false (n % 10) ∷ text)) → (b : Bool) → Plain (if b then digit_glyph false (n % 10) ∷ text else digits_onto turns 10 false (n / 10) (digit_glyph false (n % 10) ∷ text))
    by_test more rest true = more
    by_test more rest false = rest

pub Plain-decimal : (n : ℕ) → Plain (decimal n)
unfolding digits
Plain-decimal n = Plain-digits_onto 64 n [] Plain-none

-- ---- Kana

-- each of these rules leaves such texts
abbrev pub PlainRules : List Rule → Type 0
PlainRules rules = (rule : Rule) → Among rule rules → IsRuleField rule

abbrev PlainRule : Option Rule → Type 0
PlainRule None = ⊤
PlainRule (Some rule) = IsRuleField rule

PlainRule-longer : (rule : Rule) (other : Option Rule) → IsRuleField rule → PlainRule other → PlainRule (longer rule other)
PlainRule-longer rule None one more = one
PlainRule-longer rule (Some other) one more = by_test (nat_lt (length rule.input) (length other.input))
  where
    by_test : (b : Bool) → PlainRule (if b then Some other else Some rule)
    by_test true = more
    by_test false = one

PlainRule-longest : (rules : List Rule) (text : List ℕ) → PlainRules rules → PlainRule (longest rules text)
PlainRule-longest [] text plain = tt
PlainRule-longest (rule ∷ rules) text plain =
    by_test (fits text rule) (PlainRule-longest rules text (λ other h. plain other (inr h)))
  where
    by_test : (b : Bool) → PlainRule (longest rules text) → PlainRule (if b then longer rule (longest rules text) else longest rules text)
    by_test true rest = PlainRule-longer rule (longest rules text) (plain rule (inl refl)) rest
    by_test false rest = rest

record PlainShown (shown : Shown) : Type 0 where
  output : Plain shown.output
  pending : Plain shown.pending

PlainShown-turn : (rule : Option Rule) (text : List ℕ) → PlainRule rule → Plain text → PlainShown (turn rule text)
PlainShown-turn None text one plain = record { output = Plain-take 1 text plain; pending = Plain-drop 1 text plain }
PlainShown-turn (Some rule) text one plain =
    record { output = Plain-from_field rule.output one.output; pending = Plain-append rule.pending (drop (length rule.input) text) (Plain-from_field rule.pending one.pending) (Plain-drop (length rule.input) text plain) }

module _ (rules : List Rule) (are : PlainRules rules) where
  step-plain : (text : List ℕ) → Plain text → PlainShown (turn (longest rules text) text)
  step-plain text plain = PlainShown-turn (longest rules text) text (PlainRule-longest rules text are) plain

  PlainShown-within : (turns : ℕ) (text : List ℕ) → Plain text → PlainShown (kana_within turns rules text)
  PlainShown-within zero text plain = record { output = Plain-none; pending = plain }
  PlainShown-within (suc turns) text plain =
      let first = step-plain text plain in
      let rest = PlainShown-within turns (turn (longest rules text) text).pending first.pending in
      by_test turns text plain first rest (waits rules text)
    where
      by_test : (turns : ℕ) (text : List ℕ) → Plain text → PlainShown (turn (longest rules text) text) → PlainShown (kana_within turns rules (turn (longest rules text) text).pending) → (b : Bool) → PlainShown (if b then record { output = []; pending = text } else after_output (turn (longest rules text) text).output (kana_within turns rules (turn (longest rules text) text).pending))
      by_test turns text plain first rest true = record { output = Plain-none; pending = plain }
      by_test turns text plain first rest false =
          record { output = Plain-append (turn (longest rules text) text).output (kana_within turns rules (turn (longest rules text) text).pending).output first.output rest.output; pending = rest.pending }

  Plain-finish_within : (turns : ℕ) (text : List ℕ) → Plain text → Plain (finish_within turns rules text)
  Plain-finish_within zero text plain = Plain-none
  Plain-finish_within (suc turns) text plain =
      let first = step-plain text plain in
      let rest = Plain-finish_within turns (turn (longest rules text) text).pending first.pending in
      by_test turns text first rest (length text == 0)
    where
      by_test : (turns : ℕ) (text : List ℕ) → PlainShown (turn (longest rules text) text) → Plain (finish_within turns rules (turn (longest rules text) text).pending) → (b : Bool) → Plain (if b then [] else (turn (longest rules text) text).output ++ finish_within turns rules (turn (longest rules text) text).pending)
      by_test turns text first rest true = Plain-none
      by_test turns text first rest false =
          Plain-append (turn (longest rules text) text).output (finish_within turns rules (turn (longest rules text) text).pending) first.output rest

  PlainShown-kana : (text : List ℕ) → Plain text → PlainShown (kana rules text)
  unfolding kana
  PlainShown-kana text plain = PlainShown-within (length text) text plain

  Plain-finish : (text : List ℕ) → Plain text → Plain (finish rules text)
  unfolding finish
  Plain-finish text plain = Plain-finish_within (length text) text plain

-- ---- A text that is composed

pub record PlainComposing (c : Composing) : Type 0 where
  pub left : Plain c.left
  pub run : Plain c.run
  pub right : Plain c.right

pub PlainComposing-inserted : (c : Composing) (letter : ℕ) → PlainComposing c → IsFieldCharacter letter → PlainComposing (inserted c letter)
PlainComposing-inserted c letter is typed =
    record { left = is.left; run = Plain-append c.run (letter ∷ []) is.run (Plain-cons letter [] typed Plain-none); right = is.right }

module _ (rules : List Rule) (are : PlainRules rules) (c : Composing) (is : PlainComposing c) where
  pub Plain-preedit : Plain (preedit_of rules c)
  Plain-preedit =
      let seen = PlainShown-kana rules are c.run is.run in
      Plain-append (front_of rules c) c.right (Plain-append c.left ((kana rules c.run).output ++ (kana rules c.run).pending) is.left (Plain-append (kana rules c.run).output (kana rules c.run).pending seen.output seen.pending)) is.right

  Plain-fixed_left : Plain (c.left ++ finish rules c.run)
  Plain-fixed_left = Plain-append c.left (finish rules c.run) is.left (Plain-finish rules are c.run is.run)

  pub Plain-reading : Plain (reading_of rules c)
  Plain-reading = Plain-append (c.left ++ finish rules c.run) c.right Plain-fixed_left is.right

  pub PlainComposing-backspaced : PlainComposing (backspaced rules c)
  PlainComposing-backspaced =
      record { left = by_test (length (kana rules c.run).pending == 0); run = Plain-take (length (kana rules c.run).pending - 1) (kana rules c.run).pending seen.pending; right = is.right }
    where
      seen : PlainShown (kana rules c.run)
      seen = PlainShown-kana rules are c.run is.run

      left : Plain (c.left ++ (kana rules c.run).output)
      left = Plain-append c.left (kana rules c.run).output is.left seen.output

      by_test : (b : Bool) → Plain (if b then without_last (c.left ++ (kana rules c.run).output) else c.left ++ (kana rules c.run).output)
      by_test true = Plain-take (length (c.left ++ (kana rules c.run).output) - 1) (c.left ++ (kana rules c.run).output) left
      by_test false = left

  pub PlainComposing-deleted : PlainComposing (deleted rules c)
  PlainComposing-deleted =
      record { left = Plain-fixed_left; run = Plain-none; right = Plain-drop 1 c.right is.right }

  pub PlainComposing-moved_left : PlainComposing (moved_left rules c)
  PlainComposing-moved_left =
      let left = c.left ++ finish rules c.run in
      record { left = Plain-take (length left - 1) left Plain-fixed_left; run = Plain-none; right = Plain-append (drop (length left - 1) left) c.right (Plain-drop (length left - 1) left Plain-fixed_left) is.right }

  pub PlainComposing-moved_right : PlainComposing (moved_right rules c)
  PlainComposing-moved_right =
      record { left = Plain-append (c.left ++ finish rules c.run) (take 1 c.right) Plain-fixed_left (Plain-take 1 c.right is.right); run = Plain-none; right = Plain-drop 1 c.right is.right }

  pub PlainComposing-moved_home : PlainComposing (moved_home rules c)
  PlainComposing-moved_home =
      record { left = Plain-none; run = Plain-none; right = Plain-append (c.left ++ finish rules c.run) c.right Plain-fixed_left is.right }

  pub PlainComposing-moved_end : PlainComposing (moved_end rules c)
  PlainComposing-moved_end =
      record { left = Plain-append (c.left ++ finish rules c.run) c.right Plain-fixed_left is.right; run = Plain-none; right = Plain-none }
