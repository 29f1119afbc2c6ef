-- What a numeral of few digits is, and that `parse` reads it.
use Rattle.std.proofs.Common.{◌≡◌, ℕ, ◌<◌, ◌≤◌, ◌^◌, true, List, Result, Ok, length, arith, rules}
use Rattle.std.specs.Char.{is_ascii_digit}
use Rattle.std.specs.List.{list_all}
use Rattle.std.specs.Str.Parse.{digits_value, ParsesUnsigned}
use Rattle.std.proofs.lemmas.Bool.Decides.{nat_tests}
use Rattle.std.proofs.lemmas.Str.Parse.{IsNumeralModel, numerals_by_value, parse_gives, digits_value_short}
use Rattle.mz_base.specs.Numbers.{is_numeral}
use Rattle.mz_base.specs.declared.numbers.TheConstants.{MOST_SIGNED_DIGITS}

-- one digit or more, at most so many, and nothing else
pub record AreFewDigits (most : ℕ) (text : List ℕ) : Type 0 where
  pub some : 0 < length text
  pub few : length text ≤ most
  pub digits : list_all is_ascii_digit text ≡ true

pub AreFewDigits-numeral : (most : ℕ) (text : List ℕ) → is_numeral most text ≡ true → AreFewDigits most text
AreFewDigits-numeral most text is =
    record { some = grind (arith, nat_tests); few = grind (arith, nat_tests); digits = grind (arith, nat_tests) }

own : IsNumeralModel (λ ds. list_all is_ascii_digit ds ≡ true) (digits_value 10)
own = numerals_by_value _ (search rules)

pub digits_value-small : (most : ℕ) (text : List ℕ) → most ≤ MOST_SIGNED_DIGITS → AreFewDigits most text → digits_value 10 text < 10 ^ MOST_SIGNED_DIGITS
digits_value-small most text short few =
    digits_value_short own text MOST_SIGNED_DIGITS few.digits (omega (arith, few.few))

pub parse-numeral : {E : Type 0} (most : ℕ) (text : List ℕ) (r : Result ℕ E) → most ≤ MOST_SIGNED_DIGITS → AreFewDigits most text → ParsesUnsigned 64 10 text r → r ≡ Ok (digits_value 10 text)
parse-numeral most text r short few parses =
    parse_gives own 64 text r parses few.digits few.some (omega (arith, digits_value-small most text short few))
