-- A text, and the inputs that begin with it, in their order.
use Rattle.std.proofs.Common.{◌≡◌, ℕ, ◌<◌, true, false, List, [], ◌∷◌, length, nat_eq, eq-eqb, inl, inr, arith, refl}
use Rattle.std.specs.Cmp.Lexicographic.{slice_cmp}
use Rattle.std.specs.List.{starts_with}
use Rattle.std.specs.Ordering.{is_gt, is_le, nat_cmp}
use Rattle.std.specs.declared.cmp.Ordering.TheVariants.{Less, Equal, Greater}
use Rattle.std.proofs.lemmas.Bool.{cases_Bool, cases_lt}
use Rattle.std.proofs.lemmas.Bool.Decides.{nat_tests, Decides-eqb}
use Rattle.std.proofs.lemmas.Cmp.{nat_cmp_total, tied_itself}

-- the first letters are equal, and so on
heads : (t a : ℕ) (ts rest : List ℕ) → starts_with nat_eq (a ∷ rest) (t ∷ ts) ≡ true → (t ≡ a) × (starts_with nat_eq rest ts ≡ true)
heads t a ts rest begins =
    elim (cases_Bool (nat_eq t a)) [
      | inl is ↦ ((Decides-eqb t a).0 is, rw is at begins)
      | inr differ ↦ let never : false ≡ true = rw differ at begins in absurd cc
    ]

-- what goes on after a text comes after it
pub longer-is-after : (text input : List ℕ) → starts_with nat_eq input text ≡ true → length text < length input → slice_cmp nat_cmp input text ≡ Greater
longer-is-after [] [] begins longer = absurd (omega arith)
longer-is-after [] (a ∷ rest) begins longer = refl
longer-is-after (t ∷ ts) [] begins longer = absurd (omega arith)
longer-is-after (t ∷ ts) (a ∷ rest) begins longer =
    let (same, more) = heads t a ts rest begins in
    rw (same, tied_itself nat_cmp_total a) (longer-is-after ts rest more (omega arith))

-- what comes after a text, and not after an input that begins with it, begins with it too
pub between-begins : (text input other : List ℕ) → is_le (slice_cmp nat_cmp other text) ≡ false → is_gt (slice_cmp nat_cmp other input) ≡ false → starts_with nat_eq input text ≡ true → (starts_with nat_eq other text ≡ true) × (length text < length other)
between-begins [] input [] after upto begins = absurd cc
between-begins [] input (b ∷ bs) after upto begins = (refl, omega arith)
between-begins (t ∷ ts) input [] after upto begins = absurd cc
between-begins (t ∷ ts) [] (b ∷ bs) after upto begins = absurd cc
between-begins (t ∷ ts) (a ∷ rest) (b ∷ bs) after upto begins =
    let (same, more) = heads t a ts rest begins in
    elim (cases_lt b t) [
      | inl less ↦
          let is : nat_cmp b t ≡ Less = grind (arith, nat_tests) in
          let never : true ≡ false = rw is at after in absurd cc
      | inr from ↦ elim (cases_lt t b) [
        | inl greater ↦
            let is : nat_cmp b a ≡ Greater = grind (arith, nat_tests) in
            let never : true ≡ false = rw is at upto in absurd cc
        | inr to ↦
            let here : t ≡ b = omega arith in
            let first : nat_cmp b t ≡ Equal = grind (arith, nat_tests) in
            let second : nat_cmp b a ≡ Equal = grind (arith, nat_tests) in
            let (front, longer) = between-begins ts rest bs (rw first at after) (rw second at upto) more in
            (rw (eq-eqb t b here) front, omega (arith, longer))
      ]
    ]
