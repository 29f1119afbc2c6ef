-- A text that is being composed, and what each key makes of it: docs/FORMATS.md, "Composition".
use Rattle.std.specs.Prelude.{ℕ, ◌-◌, ◌==◌, List, [], ◌∷◌, ◌++◌, if◌then◌else◌, length, take, drop}
use Rattle.mz_base.specs.Kana.{kana, finish}
use Rattle.mz_base.specs.declared.romaji.Rule.{Rule}
use Rattle.composer.specs.declared.composer.Seen.{Seen}

-- fixed text before the cursor, the run of characters typed there, and fixed text after it
pub record Composing : Type 0 where
  pub left : List ℕ
  pub run : List ℕ
  pub right : List ℕ

-- what is shown before the cursor: the run stands there as its kana, and then what is pending
abbrev pub front_of : List Rule → Composing → List ℕ
front_of rules c = c.left ++ ((kana rules c.run).output ++ (kana rules c.run).pending)

-- what is shown
abbrev pub preedit_of : List Rule → Composing → List ℕ
preedit_of rules c = front_of rules c ++ c.right

-- how many of the shown characters stand before the cursor
abbrev pub cursor_of : List Rule → Composing → ℕ
cursor_of rules c = length (front_of rules c)

-- what is shown, without what is pending
abbrev pub base_of : List Rule → Composing → List ℕ
base_of rules c = (c.left ++ (kana rules c.run).output) ++ c.right

-- the text as it is, should no more be typed
abbrev pub reading_of : List Rule → Composing → List ℕ
reading_of rules c = (c.left ++ finish rules c.run) ++ c.right

-- a character goes to the end of the run
abbrev pub inserted : Composing → ℕ → Composing
inserted c letter = record c { run = c.run ++ letter ∷ [] }

-- a text less its last character, if it has one
abbrev pub without_last : List ℕ → List ℕ
without_last text = take (length text - 1) text

-- The kana become fixed. What is pending stays as the run, less its last character; where nothing is pending, the
-- fixed text before the cursor loses its last.
abbrev pub backspaced : List Rule → Composing → Composing
backspaced rules c =
    let pending = (kana rules c.run).pending in
    let left = c.left ++ (kana rules c.run).output in
    record c { left = (if length pending == 0 then without_last left else left); run = without_last pending }

-- the run is finished, and stands before the cursor as fixed text
abbrev pub fixed : List Rule → Composing → Composing
fixed rules c = record { left = c.left ++ finish rules c.run; run = []; right = c.right }

-- a text less its first character, if it has one
abbrev pub without_first : List ℕ → List ℕ
without_first text = drop 1 text

-- the first character of a text, if it has one
abbrev pub first_of : List ℕ → List ℕ
first_of text = take 1 text

-- the last character of a text, if it has one
abbrev pub last_of : List ℕ → List ℕ
last_of text = drop (length text - 1) text

-- the run is fixed, and the text after the cursor loses its first character
abbrev pub deleted : List Rule → Composing → Composing
deleted rules c = let f = fixed rules c in record f { right = without_first f.right }

-- the run is fixed, and the last character before the cursor goes over it
abbrev pub moved_left : List Rule → Composing → Composing
moved_left rules c =
    let f = fixed rules c in
    record f { left = without_last f.left; right = last_of f.left ++ f.right }

-- the run is fixed, and the first character after the cursor goes over it
abbrev pub moved_right : List Rule → Composing → Composing
moved_right rules c =
    let f = fixed rules c in
    record f { left = f.left ++ first_of f.right; right = without_first f.right }

-- the run is fixed, and all that stands before the cursor goes over it
abbrev pub moved_home : List Rule → Composing → Composing
moved_home rules c = let f = fixed rules c in record f { left = []; right = f.left ++ f.right }

-- the run is fixed, and all that stands after the cursor goes over it
abbrev pub moved_end : List Rule → Composing → Composing
moved_end rules c = let f = fixed rules c in record f { left = f.left ++ f.right; right = [] }

-- what is shown, the cursor in it, and what is shown without what is pending
abbrev pub seen_of : List Rule → Composing → Seen
seen_of rules c = record { preedit = preedit_of rules c; cursor = cursor_of rules c; base = base_of rules c }
