-- Numbers read as what was written.
use Rattle.std.proofs.Common.{◌≡◌, ◌≢◌, ℕ, ◌<◌, ◌≤◌, ◌^◌, suc, ℤ, pos, negsuc, true, List, [], ◌∷◌, Option, Some, None, option_and_then, option_map, map, length, slice_index, nat_le, ◌==◌, refl, ap, ◌∙◌, arith, rules}
use Rattle.std.specs.Char.{is_ascii_digit}
use Rattle.std.specs.Fmt.{decimal, signed_decimal}
use Rattle.std.specs.List.{list_all, AllByRecursion}
use Rattle.std.specs.Str.Parse.{digits_value}
use Rattle.std.proofs.lemmas.Bool.{cond-true, cond-false, ne_eqb}
use Rattle.std.proofs.lemmas.Bool.Decides.{nat_tests}
use Rattle.std.proofs.lemmas.Fmt.{digits_decimal, digits_value-decimal, decimal_nonempty, length-decimal-le}
use Rattle.std.proofs.lemmas.Str.Parse.{IsNumeralModel, numerals_by_value}
use Rattle.mz_base.specs.Numbers.{is_numeral, unsigned_of, number_of, signed_of, positive, negated}
use Rattle.cert_text.specs.Fields.{values_of, only_if, ordinal_of, potential_of}
use Rattle.cert_text.specs.Written.{IsShort}
use Rattle.cert_text.specs.declared.field.TheConstants.{MOST_ORDINAL}

own : IsNumeralModel (λ ds. list_all is_ascii_digit ds ≡ true) (digits_value 10)
own = numerals_by_value _ (search rules)

pub digits-decimal : (n : ℕ) → n < 2 ^ 64 → list_all is_ascii_digit (decimal n) ≡ true
digits-decimal n fits = digits_decimal own n fits

is_numeral-few : (most : ℕ) (text : List ℕ) → 0 < length text → length text ≤ most → list_all is_ascii_digit text ≡ true → is_numeral most text ≡ true
is_numeral-few most text some few digits = grind (arith, nat_tests)

unsigned_of-decimal : (most n : ℕ) → 0 < most → n < 10 ^ most → n < 2 ^ 64 → unsigned_of most (decimal n) ≡ Some n
unfolding unsigned_of
unsigned_of-decimal most n some few fits =
    let is = is_numeral-few most (decimal n) (decimal_nonempty n fits) (length-decimal-le most n some few fits) (digits-decimal n fits) in
    cond-true (is_numeral most (decimal n)) (Some (digits_value 10 (decimal n))) None is ∙ ap Some (digits_value-decimal own n fits)

pub number_of-decimal : (n : ℕ) → n < 10 ^ 10 → number_of (decimal n) ≡ Some n
number_of-decimal n few = unsigned_of-decimal 10 n (omega arith) few (omega arith)

pub ordinal_of-decimal : (n : ℕ) → n ≤ MOST_ORDINAL → ordinal_of (decimal n) ≡ Some n
ordinal_of-decimal n within =
    let is : nat_le n MOST_ORDINAL ≡ true = grind (arith, nat_tests) in
    ap (option_and_then (only_if (λ m. nat_le m MOST_ORDINAL))) (number_of-decimal n (omega arith)) ∙ cond-true (nat_le n MOST_ORDINAL) (Some n) None is

no_minus : (ds : List ℕ) → list_all is_ascii_digit ds ≡ true → slice_index ds 0 ≢ 45
no_minus [] is = λ e. absurd (omega (arith, e))
no_minus (d ∷ ds) is = λ e. grind (arith, nat_tests)

pub potential_of-signed : (n : ℤ) → IsShort n → potential_of (signed_decimal n) ≡ Some n
unfolding signed_of
potential_of-signed (pos n) short =
    cond-false (slice_index (decimal n) 0 == 45) _ _ (ne_eqb (slice_index (decimal n) 0) 45 (no_minus (decimal n) (digits-decimal n (omega arith)))) ∙ ap positive (unsigned_of-decimal 18 n (omega arith) short (omega arith))
potential_of-signed (negsuc n) short = ap negated (unsigned_of-decimal 18 (suc n) (omega arith) (omega arith) (omega arith))

-- fields that spell values read as these
pub values_of-texts : {A : Type 0} (value_of : List ℕ → Option A) (text_of : A → List ℕ) (values : List A) → AllByRecursion (λ value. value_of (text_of value) ≡ Some value) values → values_of value_of (map text_of values) ≡ Some values
values_of-texts value_of text_of [] each = refl
values_of-texts value_of text_of (value ∷ values) each =
    ap (λ found. option_and_then (λ first. option_map (λ rest. first ∷ rest) (values_of value_of (map text_of values))) found) each.0
    ∙ ap (λ found. option_map (λ rest. value ∷ rest) found) (values_of-texts value_of text_of values each.1)
