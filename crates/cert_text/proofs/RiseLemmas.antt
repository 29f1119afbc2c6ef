-- Bounds that pass the test rise within the key.
use Rattle.std.proofs.Common.{◌≡◌, ℕ, ◌+◌, ◌<◌, ◌≤◌, zero, suc, true, List, [], ◌∷◌, length, slice_index, refl, subst, arith}
use Rattle.std.specs.List.{All}
use Rattle.std.specs.List.Sorted.{IsStrictlyIncreasing}
use Rattle.std.proofs.lemmas.Bool.Decides.{nat_tests}
use Rattle.std.proofs.lemmas.List.Elements.{All-nil, All-cons}
use Rattle.cert_text.specs.Fields.{rises, RiseWithin}

-- what a test of one bound more says
record RisesOn (last before bound : ℕ) (bounds : List ℕ) : Type 0 where
  above : before < bound
  inside : bound ≤ last
  rest : rises last bound bounds ≡ true

RisesOn-from_test : (last before bound : ℕ) (bounds : List ℕ) → rises last before (bound ∷ bounds) ≡ true → RisesOn last before bound bounds
RisesOn-from_test last before bound bounds is =
    record { above = grind (arith, nat_tests); inside = grind (arith, nat_tests); rest = grind (arith, nat_tests) }

rises-inside : (low last before : ℕ) (bounds : List ℕ) → low ≤ before → rises last before bounds ≡ true → All (λ bound. (low < bound) × (bound ≤ last)) bounds
rises-inside low last before [] below is = All-nil _
rises-inside low last before (bound ∷ bounds) below is =
    let on = RisesOn-from_test last before bound bounds is in
    let higher : low < bound = omega (arith, on.above) in
    let fits : (low < bound) × (bound ≤ last) = (higher, on.inside) in
    All-cons (λ bound. (low < bound) × (bound ≤ last)) bound bounds fits (rises-inside low last bound bounds (omega arith) on.rest)

rises-first : (last before : ℕ) (bounds : List ℕ) → rises last before bounds ≡ true → 0 < length bounds → before < slice_index bounds 0
rises-first last before [] is some = absurd (omega arith)
rises-first last before (bound ∷ bounds) is some = (RisesOn-from_test last before bound bounds is).above

IsStrictlyIncreasing-cons : (x : ℕ) (xs : List ℕ) → (0 < length xs → x < slice_index xs 0) → IsStrictlyIncreasing xs → IsStrictlyIncreasing (x ∷ xs)
IsStrictlyIncreasing-cons x xs first rest zero inside = first (omega arith)
IsStrictlyIncreasing-cons x xs first rest (suc k) inside =
    let next : suc (k + 1) ≡ suc k + 1 = omega arith in
    subst (λ n. slice_index xs k < slice_index (x ∷ xs) n) next (rest k (omega arith))

rises-rising : (last before : ℕ) (bounds : List ℕ) → rises last before bounds ≡ true → IsStrictlyIncreasing bounds
rises-rising last before [] is = λ k inside. absurd (omega arith)
rises-rising last before (bound ∷ bounds) is =
    let on = RisesOn-from_test last before bound bounds is in
    IsStrictlyIncreasing-cons bound bounds (rises-first last bound bounds on.rest) (rises-rising last bound bounds on.rest)

pub RiseWithin_from_test : (last : ℕ) (bounds : List ℕ) → rises last 0 bounds ≡ true → RiseWithin last bounds
RiseWithin_from_test last bounds is = record { rising = rises-rising last 0 bounds is; inside = rises-inside 0 last 0 bounds (omega arith) is }

IsStrictlyIncreasing-tail : (x : ℕ) (xs : List ℕ) → IsStrictlyIncreasing (x ∷ xs) → IsStrictlyIncreasing xs
IsStrictlyIncreasing-tail x xs rising = λ k inside.
    let next : suc k + 1 ≡ suc (k + 1) = omega arith in
    subst (λ n. slice_index xs k < slice_index (x ∷ xs) n) next (rising (suc k) (omega arith))

rises-from : (last before : ℕ) (bounds : List ℕ) → (0 < length bounds → before < slice_index bounds 0) → IsStrictlyIncreasing bounds → All (λ bound. (0 < bound) × (bound ≤ last)) bounds → rises last before bounds ≡ true
rises-from last before [] first rising inside = refl
rises-from last before (bound ∷ bounds) first rising inside =
    let above : before < bound = first (omega arith) in
    let fits : bound ≤ last = (inside 0 0 (omega arith)).1 in
    let rest : rises last bound bounds ≡ true = rises-from last bound bounds (λ some. rising 0 (omega (arith, some))) (IsStrictlyIncreasing-tail bound bounds rising) (λ k d within. inside (suc k) d (omega arith)) in
    grind (arith, nat_tests)

pub rises-from_RiseWithin : (last : ℕ) (bounds : List ℕ) → RiseWithin last bounds → rises last 0 bounds ≡ true
rises-from_RiseWithin last bounds are =
    rises-from last 0 bounds (λ some. (are.inside 0 0 some).0) are.rising are.inside
