-- A number that is written with units is worth itself.
use Rattle.std.proofs.Common.{◌≡◌, refl, sym, ap, ◌∙◌, ℕ, zero, suc, ◌+◌, ◌*◌, ◌/◌, ◌%◌, ◌<◌, ◌==◌, Bool, true, false, [], ◌∷◌, ◌++◌, if◌then◌else◌, arith}
use Rattle.std.specs.List.{fold}
use Rattle.std.proofs.lemmas.Bool.Decides.{nat_tests}
use Rattle.std.proofs.lemmas.List.Sums.{fold-append}
use Rattle.conversion_meaning.specs.Rules.{digit_with, group_with, last_digit, spelled, spelled_group}
use Rattle.rewrite_rules.specs.Worth.{Count, SpelledIsWorth, count, read_on, total}

-- what holds of 0 to 9 holds of each number below ten
below_ten : (P : ℕ → Type 0) → P 0 → P 1 → P 2 → P 3 → P 4 → P 5 → P 6 → P 7 → P 8 → P 9 → (d : ℕ) → d < 10 → P d
below_ten P p0 p1 p2 p3 p4 p5 p6 p7 p8 p9 zero h = p0
below_ten P p0 p1 p2 p3 p4 p5 p6 p7 p8 p9 (suc zero) h = p1
below_ten P p0 p1 p2 p3 p4 p5 p6 p7 p8 p9 (suc (suc zero)) h = p2
below_ten P p0 p1 p2 p3 p4 p5 p6 p7 p8 p9 (suc (suc (suc zero))) h = p3
below_ten P p0 p1 p2 p3 p4 p5 p6 p7 p8 p9 (suc (suc (suc (suc zero)))) h = p4
below_ten P p0 p1 p2 p3 p4 p5 p6 p7 p8 p9 (suc (suc (suc (suc (suc zero))))) h = p5
below_ten P p0 p1 p2 p3 p4 p5 p6 p7 p8 p9 (suc (suc (suc (suc (suc (suc zero)))))) h = p6
below_ten P p0 p1 p2 p3 p4 p5 p6 p7 p8 p9 (suc (suc (suc (suc (suc (suc (suc zero))))))) h = p7
below_ten P p0 p1 p2 p3 p4 p5 p6 p7 p8 p9 (suc (suc (suc (suc (suc (suc (suc (suc zero)))))))) h = p8
below_ten P p0 p1 p2 p3 p4 p5 p6 p7 p8 p9 (suc (suc (suc (suc (suc (suc (suc (suc (suc zero))))))))) h = p9
below_ten P p0 p1 p2 p3 p4 p5 p6 p7 p8 p9 (suc (suc (suc (suc (suc (suc (suc (suc (suc (suc d)))))))))) h =
    absurd (omega arith)

-- ---- Digits

-- a digit with its unit adds so much to the group
abbrev Adds : ℕ → ℕ → ℕ → Type 0
Adds letter unit digit =
    (groups group : ℕ) → fold read_on (count groups group 0) (digit_with letter digit) ≡ count groups (group + digit * unit) 0

-- a unit of the group is read as such
abbrev ReadsUnit : ℕ → ℕ → Type 0
ReadsUnit letter unit = (c : Count) → read_on c letter ≡ count c.groups (c.group + (if c.digit == 0 then 1 else c.digit) * unit) 0

adds : (letter unit : ℕ) → ReadsUnit letter unit → (digit : ℕ) → digit < 10 → Adds letter unit digit
adds letter unit reads = below_ten (Adds letter unit) nothing (λ groups group. reads (count groups group 0)) (λ groups group. reads (count groups group 2)) (λ groups group. reads (count groups group 3)) (λ groups group. reads (count groups group 4)) (λ groups group. reads (count groups group 5)) (λ groups group. reads (count groups group 6)) (λ groups group. reads (count groups group 7)) (λ groups group. reads (count groups group 8)) (λ groups group. reads (count groups group 9))
  where
    nothing : Adds letter unit 0
    nothing groups group =
        let none : group ≡ group + 0 * unit = omega arith in ap (λ n. count groups n 0) none

adds_thousands : (digit : ℕ) → digit < 10 → Adds 0x5343 1000 digit
adds_thousands = adds 0x5343 1000 (λ c. refl)

adds_hundreds : (digit : ℕ) → digit < 10 → Adds 0x767E 100 digit
adds_hundreds = adds 0x767E 100 (λ c. refl)

adds_tens : (digit : ℕ) → digit < 10 → Adds 0x5341 10 digit
adds_tens = adds 0x5341 10 (λ c. refl)

-- the ones wait
abbrev Waits : ℕ → Type 0
Waits digit =
    (groups group : ℕ) → fold read_on (count groups group 0) (last_digit digit) ≡ count groups group digit

waits : (digit : ℕ) → digit < 10 → Waits digit
waits = below_ten Waits (λ groups group. refl) (λ groups group. refl) (λ groups group. refl) (λ groups group. refl) (λ groups group. refl) (λ groups group. refl) (λ groups group. refl) (λ groups group. refl) (λ groups group. refl) (λ groups group. refl)

-- ---- Groups

-- the group of a number below 10,000, its ones apart
abbrev without_ones : ℕ → ℕ
without_ones n = ((0 + n / 1000 * 1000) + n / 100 % 10 * 100) + n / 10 % 10 * 10

reads_group : (groups n : ℕ) → n < 10000 → fold read_on (count groups 0 0) (spelled_group n) ≡ count groups (without_ones n) (n % 10)
reads_group groups n small =
    let thousands = digit_with 0x5343 (n / 1000) in
    let hundreds = digit_with 0x767E (n / 100 % 10) in
    let tens = digit_with 0x5341 (n / 10 % 10) in
    let ones = last_digit (n % 10) in
    let first : n / 1000 < 10 = omega arith in
    let second : n / 100 % 10 < 10 = omega arith in
    let third : n / 10 % 10 < 10 = omega arith in
    let fourth : n % 10 < 10 = omega arith in
    let a = 0 + n / 1000 * 1000 in
    let b = a + n / 100 % 10 * 100 in
    fold-append read_on (count groups 0 0) thousands (hundreds ++ (tens ++ ones))
    ∙ (ap (λ c. fold read_on c (hundreds ++ (tens ++ ones))) (adds_thousands (n / 1000) first groups 0)
    ∙ (fold-append read_on (count groups a 0) hundreds (tens ++ ones)
    ∙ (ap (λ c. fold read_on c (tens ++ ones)) (adds_hundreds (n / 100 % 10) second groups a)
    ∙ (fold-append read_on (count groups b 0) tens ones
    ∙ (ap (λ c. fold read_on c ones) (adds_tens (n / 10 % 10) third groups b)
    ∙ waits (n % 10) fourth groups (without_ones n))))))

whole_group : (n : ℕ) → n < 10000 → without_ones n + n % 10 ≡ n
whole_group n small = omega arith

-- a unit of groups is read as such
abbrev ReadsGroup : ℕ → ℕ → Type 0
ReadsGroup letter unit = (c : Count) → read_on c letter ≡ count (c.groups + (c.group + c.digit) * unit) 0 0

adds_group : (letter unit groups n : ℕ) → ReadsGroup letter unit → n < 10000 → fold read_on (count groups 0 0) (group_with letter n) ≡ count (groups + n * unit) 0 0
adds_group letter unit groups n reads small = by_test (n == 0) refl
  where
    by_test : (b : Bool) → (n == 0) ≡ b → fold read_on (count groups 0 0) (if b then [] else spelled_group n ++ letter ∷ []) ≡ count (groups + n * unit) 0 0
    by_test true is =
        let none : n ≡ 0 = grind (arith, nat_tests) in
        let same = ap (λ (k : ℕ). count (groups + k * unit) 0 0) none in
        let less : groups ≡ groups + 0 * unit = omega arith in
        ap (λ k. count k 0 0) less ∙ sym same
    by_test false is =
        fold-append read_on (count groups 0 0) (spelled_group n) (letter ∷ [])
        ∙ (ap (λ c. fold read_on c (letter ∷ [])) (reads_group groups n small)
        ∙ (reads (count groups (without_ones n) (n % 10))
        ∙ ap (λ k. count (groups + k * unit) 0 0) (whole_group n small)))

-- ---- The whole number

pub spelled-worth : SpelledIsWorth
unfolding spelled
spelled-worth n small =
    let trillions = group_with 0x5146 (n / 1000000000000) in
    let millions = group_with 0x5104 (n / 100000000 % 10000) in
    let thousands = group_with 0x4E07 (n / 10000 % 10000) in
    let rest = spelled_group (n % 10000) in
    let first : n / 1000000000000 < 10000 = omega arith in
    let second : n / 100000000 % 10000 < 10000 = omega arith in
    let third : n / 10000 % 10000 < 10000 = omega arith in
    let fourth : n % 10000 < 10000 = omega arith in
    let a = 0 + n / 1000000000000 * 1000000000000 in
    let b = a + n / 100000000 % 10000 * 100000000 in
    let c = b + n / 10000 % 10000 * 10000 in
    let all : c + (n % 10000) ≡ n = omega arith in
    ap total (fold-append read_on (count 0 0 0) trillions (millions ++ (thousands ++ rest)))
    ∙ (ap (λ k. total (fold read_on k (millions ++ (thousands ++ rest)))) (adds_group 0x5146 1000000000000 0 (n / 1000000000000) (λ k. refl) first)
    ∙ (ap total (fold-append read_on (count a 0 0) millions (thousands ++ rest))
    ∙ (ap (λ k. total (fold read_on k (thousands ++ rest))) (adds_group 0x5104 100000000 a (n / 100000000 % 10000) (λ k. refl) second)
    ∙ (ap total (fold-append read_on (count b 0 0) thousands rest)
    ∙ (ap (λ k. total (fold read_on k rest)) (adds_group 0x4E07 10000 b (n / 10000 % 10000) (λ k. refl) third)
    ∙ (ap total (reads_group c (n % 10000) fourth)
    ∙ (ap (λ k. c + k) (whole_group (n % 10000) fourth)
    ∙ all)))))))
