-- Powers of ten.
use Rattle.std.proofs.Common.{◌≡◌, refl, ap, ℕ, zero, suc, ◌+◌, ◌-◌, ◌*◌, ◌<◌, ◌≤◌, Bool, true, false, List, [], ◌∷◌, length, get_or, arith}
use Rattle.std.specs.Prelude.{◌&&◌, nat_le, nat_lt}
use Rattle.std.specs.List.{list_all}
use Rattle.std.proofs.lemmas.Bool.{false≢true}
use Rattle.std.proofs.lemmas.Bool.Decides.{nat_tests}
use Rattle.conversion_meaning.specs.Rules.{is_digit, is_number}
use Rattle.conversion_meaning.specs.declared.rules.TheConstants.{MOST_DIGITS}

abbrev pub tens : ℕ → ℕ
tens zero = 1
tens (suc n) = tens n * 10

tens-le : (n more : ℕ) → tens n ≤ tens (n + more)
tens-le n zero = let same : n + 0 ≡ n = omega arith in let e = ap tens same in omega (arith, e)
tens-le n (suc more) =
    let same : n + suc more ≡ suc (n + more) = omega arith in
    let e = ap tens same in
    let rest = tens-le n more in
    omega (arith, e, rest)

-- a number of fewer than 16 digits
pub small-tens : (n count : ℕ) → count < 16 → n < tens count → n < 1000000000000000
small-tens n count few small =
    let whole : count + (15 - count) ≡ 15 = omega arith in
    let e = ap tens whole in
    let most = tens-le count (15 - count) in
    omega (arith, small, e, most)

and_left : (a b : Bool) → (a && b) ≡ true → a ≡ true
and_left true b is = refl
and_left false b is = is

and_right : (a b : Bool) → (a && b) ≡ true → b ≡ true
and_right true b is = is
and_right false b is = absurd (false≢true is)

-- a key that is a number has at most 16 digits
pub number-short : (key : List ℕ) → is_number key ≡ true → length key ≤ 16
number-short key is =
    le-from (length key) (and_right (nat_lt 0 (length key)) (nat_le (length key) MOST_DIGITS) (and_left (nat_lt 0 (length key) && nat_le (length key) MOST_DIGITS) (list_all is_digit key) is))
  where
    le-from : (n : ℕ) → nat_le n MOST_DIGITS ≡ true → n ≤ 16
    le-from n le = grind (arith, nat_tests)

digit-at : (key : List ℕ) (i d : ℕ) → list_all is_digit key ≡ true → i < length key → get_or key i d - 0x30 ≤ 9
digit-at [] i d all inside = absurd (omega arith)
digit-at (c ∷ key) zero d all inside = small c (and_left (is_digit c) (list_all is_digit key) all)
  where
    small : (n : ℕ) → is_digit n ≡ true → n - 0x30 ≤ 9
    small n is = grind (arith, nat_tests)
digit-at (c ∷ key) (suc i) d all inside =
    digit-at key i d (and_right (is_digit c) (list_all is_digit key) all) (omega (arith, inside))

-- and each of them is below ten
pub digit-small : (key : List ℕ) (i d : ℕ) → is_number key ≡ true → i < length key → get_or key i d - 0x30 ≤ 9
digit-small key i d is inside =
    digit-at key i d (and_right (nat_lt 0 (length key) && nat_le (length key) MOST_DIGITS) (list_all is_digit key) is) inside
