-- What a text of kanji digits and units is worth, read from the left.
use Rattle.std.specs.Prelude.{◌≡◌, ℕ, ◌+◌, ◌*◌, ◌<◌, ◌==◌, List, if◌then◌else◌, nat_eq}
use Rattle.std.specs.List.{fold, position_or_len}
use Rattle.conversion_meaning.specs.Rules.{spelled}
use Rattle.conversion_meaning.specs.declared.rules.TheConstants.{KANJI_DIGITS}

-- what the groups before come to, what this group comes to, and a digit that waits for its unit, 0 where none does
pub record Count : Type 0 where
  pub groups : ℕ
  pub group : ℕ
  pub digit : ℕ

abbrev pub count : ℕ → ℕ → ℕ → Count
count groups group digit = record { groups = groups; group = group; digit = digit }

-- a unit without a digit is taken once
abbrev pub times : ℕ → ℕ
times digit = if digit == 0 then 1 else digit

-- 千, 百 or 十
abbrev pub with_unit : Count → ℕ → Count
with_unit c unit = count c.groups (c.group + times c.digit * unit) 0

-- 兆, 億 or 万
abbrev pub with_group : Count → ℕ → Count
with_group c unit = count (c.groups + (c.group + c.digit) * unit) 0 0

-- a digit
abbrev pub with_digit : Count → ℕ → Count
with_digit c letter = count c.groups c.group (position_or_len (nat_eq letter) KANJI_DIGITS)

-- one character more
abbrev pub read_on : Count → ℕ → Count
read_on c letter =
    if letter == 0x5343 then with_unit c 1000 else (
    if letter == 0x767E then with_unit c 100 else (
    if letter == 0x5341 then with_unit c 10 else (
    if letter == 0x5146 then with_group c 1000000000000 else (
    if letter == 0x5104 then with_group c 100000000 else (if letter == 0x4E07 then with_group c 10000 else with_digit c letter)
    )
    )
    )
    )

abbrev pub total : Count → ℕ
total c = c.groups + (c.group + c.digit)

abbrev pub worth : List ℕ → ℕ
worth text = total (fold read_on (count 0 0 0) text)

-- a number of at most 16 digits that is written with units is worth itself
abbrev pub SpelledIsWorth : Type 0
SpelledIsWorth = (n : ℕ) → n < 10000000000000000 → worth (spelled n) ≡ n
