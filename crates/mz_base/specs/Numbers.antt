-- Numbers in files: docs/FORMATS.md, "Numbers".
use Rattle.std.specs.Prelude.{ℕ, ℤ, pos, neg_ℤ, Bool, ◌&&◌, List, Option, Some, None, if◌then◌else◌, ◌==◌, nat_le, length, drop, slice_index}
use Rattle.std.specs.Char.{is_ascii_digit}
use Rattle.std.specs.List.{list_all}
use Rattle.std.specs.Str.Parse.{digits_value}
use Rattle.mz_base.specs.declared.numbers.TheConstants.{MOST_DIGITS}

-- one digit or more, and at most so many; leading zeros count
abbrev pub is_numeral : ℕ → List ℕ → Bool
is_numeral most text = nat_le 1 (length text) && (nat_le (length text) most && list_all is_ascii_digit text)

-- the number that a text of at most so many digits writes
unfoldable pub unsigned_of : ℕ → List ℕ → Option ℕ
unsigned_of most text = if is_numeral most text then Some (digits_value 10 text) else None

-- a number has one to `MOST_DIGITS` digits
abbrev pub number_of : List ℕ → Option ℕ
number_of text = unsigned_of MOST_DIGITS text

abbrev pub negated : Option ℕ → Option ℤ
negated None = None
negated (Some n) = Some (neg_ℤ (pos n))

abbrev pub positive : Option ℕ → Option ℤ
positive None = None
positive (Some n) = Some (pos n)

-- the same, where one minus may stand first
unfoldable pub signed_of : ℕ → List ℕ → Option ℤ
signed_of most text =
    if slice_index text 0 == 45 then negated (unsigned_of most (drop 1 text)) else positive (unsigned_of most text)
