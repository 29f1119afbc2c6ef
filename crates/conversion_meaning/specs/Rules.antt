-- The rewriting rules: docs/CONVERSION.md, "Rules".
use Rattle.std.specs.Prelude.{ℕ, ◌+◌, ◌-◌, ◌*◌, ◌/◌, ◌%◌, ◌==◌, Bool, not, ◌&&◌, List, [], ◌∷◌, ◌++◌, None, Some, Option, filter, find, length, map, nat_le, nat_lt, slice_index_or, if◌then◌else◌}
use Rattle.std.specs.List.{fold, list_all, list_any}
use Rattle.mz_base.specs.Classes.{is_from}
use Rattle.mz_base.specs.Data.{DataLists, is_text, kanji_rows, values_of}
use Rattle.mz_base.specs.Folds.{full_width, half_width, katakana}
use Rattle.mz_base.specs.declared.lattice.Candidate.{Candidate}
use Rattle.mz_base.specs.declared.lattice.Pair.{Pair}
use Rattle.conversion_meaning.specs.declared.rules.TheConstants.{KANJI_DIGITS, MOST_DIGITS}

-- what a rule sees beside the candidates: the data set, the history, newest first, and the segment's key
pub record Asked : Type 0 where
  pub lists : DataLists
  pub history : List Pair
  pub key : List ℕ

-- ---- How a list of candidates grows

-- the candidate has this value
abbrev pub is_value : List ℕ → Candidate → Bool
is_value value candidate = is_text value candidate.value

-- a value goes to the end, without a cost, where no candidate has it
abbrev pub with_value : List Candidate → List ℕ → List Candidate
with_value list value =
    if list_any (is_value value) list then list else list ++ record { value = value; cost = None } ∷ []

-- several values, one after the other
abbrev pub with_values : List Candidate → List (List ℕ) → List Candidate
with_values list values = fold with_value list values

-- ---- Numbers

-- a character from 0 to 9 of half width
abbrev pub is_digit : ℕ → Bool
is_digit c = is_from 0x30 0x39 c

-- a key that is a number, and not too long
abbrev pub is_number : List ℕ → Bool
is_number key = (nat_lt 0 (length key) && nat_le (length key) MOST_DIGITS) && list_all is_digit key

-- the number itself
abbrev pub number_of : List ℕ → ℕ
number_of key = fold (λ n c. n * 10 + (c - 0x30)) 0 key

abbrev pub kanji_digit : ℕ → ℕ
kanji_digit digit = slice_index_or KANJI_DIGITS digit 0

-- its digits in kanji
abbrev pub kanji_digits : List ℕ → List ℕ
kanji_digits key = map (λ c. kanji_digit (c - 0x30)) key

-- a digit before 千, 百 or 十: nothing for 0, the unit alone for 1
abbrev pub digit_with : ℕ → ℕ → List ℕ
digit_with unit digit =
    if digit == 0 then [] else (if digit == 1 then unit ∷ [] else kanji_digit digit ∷ unit ∷ [])

-- the ones
abbrev pub last_digit : ℕ → List ℕ
last_digit digit = if digit == 0 then [] else kanji_digit digit ∷ []

-- a number below 10,000, nothing for 0
abbrev pub spelled_group : ℕ → List ℕ
spelled_group n =
    digit_with 0x5343 (n / 1000) ++ (digit_with 0x767E (n / 100 % 10) ++ (digit_with 0x5341 (n / 10 % 10) ++ last_digit (n % 10)))

-- a group before 兆, 億 or 万
abbrev pub group_with : ℕ → ℕ → List ℕ
group_with unit n = if n == 0 then [] else spelled_group n ++ unit ∷ []

-- a number with its units
unfoldable pub spelled : ℕ → List ℕ
spelled n =
    group_with 0x5146 (n / 1000000000000) ++ (group_with 0x5104 (n / 100000000 % 10000) ++ (group_with 0x4E07 (n / 10000 % 10000) ++ spelled_group (n % 10000)))

-- what is written of a number with units: nothing where it begins with 0
abbrev pub units_of : List ℕ → List (List ℕ)
units_of key = if slice_index_or key 0 0 == 0x30 then [] else spelled (number_of key) ∷ []

-- ---- The values that rules 2 to 6 add

-- 2: the key, in katakana, and in katakana of half width
abbrev pub kana_values : List ℕ → List (List ℕ)
kana_values key = key ∷ katakana key ∷ half_width (katakana key) ∷ []

-- 3: a number in full width, in kanji digits, and with units
abbrev pub number_values : List ℕ → List (List ℕ)
number_values key =
    if is_number key then full_width key ∷ kanji_digits key ∷ units_of key else []

-- 4: a value of letters, digits and signs of half width, in full width
abbrev pub is_half : List ℕ → Bool
is_half value = nat_lt 0 (length value) && list_all (is_from 0x21 0x7E) value

abbrev pub wide_values : List Candidate → List (List ℕ)
wide_values list = map full_width (filter is_half (map (λ (candidate : Candidate). candidate.value) list))

-- ---- The history

-- the first pair of the history that has this key and a value in the list
abbrev pub chosen_before : Asked → List Candidate → Option Pair
chosen_before ask list =
    find (λ (pair : Pair). is_text ask.key pair.key && list_any (is_value pair.value) list) ask.history

-- 1: its candidate goes before the others
abbrev pub put_first : Option Pair → List Candidate → List Candidate
put_first None list = list
put_first (Some pair) list =
    filter (is_value pair.value) list ++ filter (λ candidate. not (is_value pair.value candidate)) list

-- ---- The rules

-- 5 and 6: the symbols, and the single kanji, for this reading
abbrev pub values_by : ℕ → Asked → List Candidate → List (List ℕ)
values_by rule ask list =
    if rule == 2 then kana_values ask.key else (if rule == 3 then number_values ask.key else (if rule == 4 then wide_values list else (if rule == 5 then values_of ask.lists.symbols ask.key else (if rule == 6 then values_of (kanji_rows ask.lists.kanji) ask.key else []))))

-- what a rule makes of a list of candidates
unfoldable pub rewritten : ℕ → Asked → List Candidate → List Candidate
rewritten rule ask list =
    if rule == 1 then put_first (chosen_before ask list) list else with_values list (values_by rule ask list)

-- the rules of these numbers, one after the other
abbrev pub rewritten_by : List ℕ → Asked → List Candidate → List Candidate
rewritten_by rules ask list = fold (λ list rule. rewritten rule ask list) list rules
