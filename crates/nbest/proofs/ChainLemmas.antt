-- How lists with one ordinal more compare.
use Rattle.std.proofs.Common.{◌≡◌, refl, ap, ◌∙◌, ℕ, ◌+◌, ◌-◌, ◌≤◌, List, [], ◌∷◌, ◌++◌, length, get_or, arith, length-append}
use Rattle.std.specs.Cmp.Lexicographic.{slice_cmp}
use Rattle.std.specs.Ordering.{nat_cmp, ordering_then}
use Rattle.std.specs.declared.cmp.Ordering.{Ordering}
use Rattle.std.specs.declared.cmp.Ordering.TheVariants.{Less, Equal, Greater}
use Rattle.nbest.specs.Searches.{first_of}

then_then : (a b c : Ordering) → ordering_then a (ordering_then b c) ≡ ordering_then (ordering_then a b) c
then_then Less b c = refl
then_then Equal b c = refl
then_then Greater b c = refl

then_equal : (a : Ordering) → ordering_then a Equal ≡ a
then_equal Less = refl
then_equal Equal = refl
then_equal Greater = refl

-- lists of one length, with one ordinal more each
pub cmp-same : (xs ys : List ℕ) (x y : ℕ) → length xs ≡ length ys → slice_cmp nat_cmp (xs ++ x ∷ []) (ys ++ y ∷ []) ≡ ordering_then (slice_cmp nat_cmp xs ys) (nat_cmp x y)
cmp-same [] [] x y same = then_equal (nat_cmp x y)
cmp-same [] (b ∷ ys) x y same = absurd (omega (arith, same))
cmp-same (a ∷ xs) [] x y same = absurd (omega (arith, same))
cmp-same (a ∷ xs) (b ∷ ys) x y same =
    ap (ordering_then (nat_cmp a b)) (cmp-same xs ys x y (omega (arith, same))) ∙ then_then (nat_cmp a b) (slice_cmp nat_cmp xs ys) (nat_cmp x y)

-- one ordinal more where the other list is no longer
pub cmp-longer : (xs ys : List ℕ) (x : ℕ) → length ys ≤ length xs → slice_cmp nat_cmp (xs ++ x ∷ []) ys ≡ ordering_then (slice_cmp nat_cmp xs ys) Greater
cmp-longer [] [] x long = refl
cmp-longer [] (b ∷ ys) x long = absurd (omega (arith, long))
cmp-longer (a ∷ xs) [] x long = refl
cmp-longer (a ∷ xs) (b ∷ ys) x long =
    ap (ordering_then (nat_cmp a b)) (cmp-longer xs ys x (omega (arith, long))) ∙ then_then (nat_cmp a b) (slice_cmp nat_cmp xs ys) Greater

-- one ordinal more in the other list where that is no shorter
pub cmp-shorter : (xs ys : List ℕ) (y : ℕ) → length xs ≤ length ys → slice_cmp nat_cmp xs (ys ++ y ∷ []) ≡ ordering_then (slice_cmp nat_cmp xs ys) Less
cmp-shorter [] [] y long = refl
cmp-shorter [] (b ∷ ys) y long = refl
cmp-shorter (a ∷ xs) [] y long = absurd (omega (arith, long))
cmp-shorter (a ∷ xs) (b ∷ ys) y long =
    ap (ordering_then (nat_cmp a b)) (cmp-shorter xs ys y (omega (arith, long))) ∙ then_then (nat_cmp a b) (slice_cmp nat_cmp xs ys) Less

pub length-push : (xs : List ℕ) (x : ℕ) → length (xs ++ x ∷ []) ≡ length xs + 1
length-push xs x = length-append xs (x ∷ [])

at-push : (xs : List ℕ) (x : ℕ) → get_or (xs ++ x ∷ []) (length xs) 0 ≡ x
at-push [] x = refl
at-push (y ∷ xs) x = at-push xs x

-- the first entry of a tail is the last one that came to it
pub first_of-push : (xs : List ℕ) (x : ℕ) → first_of (xs ++ x ∷ []) ≡ x
first_of-push xs x =
    let n = length-push xs x in
    let e : length (xs ++ x ∷ []) - 1 ≡ length xs = omega (arith, n) in
    ap (λ i. get_or (xs ++ x ∷ []) i 0) e ∙ at-push xs x
