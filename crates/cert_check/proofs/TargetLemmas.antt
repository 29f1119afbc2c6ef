-- The targets by rank.
use Rattle.std.proofs.Common.{◌≡◌, refl, ap, subst, ℕ, ◌+◌, ◌<◌, ◌≤◌, true, false, ltb, ◌⊎◌, inl, inr, List, length, Some, None, arith}
use Rattle.std.specs.Prelude.{ℤ}
use Rattle.std.proofs.lemmas.Bool.Decides.{nat_tests}
use Rattle.mz_base.specs.Data.{DataLists}
use Rattle.mz_base.specs.declared.lattice.Entry.{Entry}
use Rattle.mz_base.specs.declared.lattice.Span.{Span}
use Rattle.conversion_meaning.specs.Lattices.{EndBefore}
use Rattle.cert_check.specs.declared.edge.Target.{Target}
use Rattle.cert_check.specs.Edges.{AreMetInto, AreMetTo, BeginsRise, ordinal_at, target_at, target_of}

pub target_at-entry : (es : List Entry) (potentials : List ℤ) (end : Target) (rank : ℕ) → rank < length es → target_at es potentials end rank ≡ target_of es potentials rank
target_at-entry es potentials end rank inside =
    let test : ltb rank (length es) ≡ true = grind (arith, nat_tests) in rw test refl

pub target_at-end : (es : List Entry) (potentials : List ℤ) (end : Target) (rank : ℕ) → length es ≤ rank → target_at es potentials end rank ≡ end
target_at-end es potentials end rank past =
    let test : ltb rank (length es) ≡ false = grind (arith, nat_tests) in rw test refl

pub ordinal_at-entry : (count rank : ℕ) → rank < count → ordinal_at count rank ≡ Some rank
ordinal_at-entry count rank inside =
    let test : ltb rank count ≡ true = grind (arith, nat_tests) in rw test refl

pub ordinal_at-end : (count rank : ℕ) → count ≤ rank → ordinal_at count rank ≡ None
ordinal_at-end count rank past =
    let test : ltb rank count ≡ false = grind (arith, nat_tests) in rw test refl

split : (a b : ℕ) → (a < b) ⊎ (b ≤ a)
split a b = grind arith

-- a target does not begin before one of a lower rank
pub begin-rises : (es : List Entry) (potentials : List ℤ) (end : Target) (rank : ℕ) → BeginsRise es end.begin → (target_at es potentials end rank).begin ≤ (target_at es potentials end (rank + 1)).begin
begin-rises es potentials end rank rises =
    by_cases (split (rank + 1) (length es)) (split rank (length es))
  where
    by_cases : (rank + 1 < length es) ⊎ (length es ≤ rank + 1) → (rank < length es) ⊎ (length es ≤ rank) → (target_at es potentials end rank).begin ≤ (target_at es potentials end (rank + 1)).begin
    by_cases (inl further) (inl inside) =
        let e = ap (λ (t : Target). t.begin) (target_at-entry es potentials end rank inside) in
        let f = ap (λ (t : Target). t.begin) (target_at-entry es potentials end (rank + 1) further) in
        let h = rises.rising rank further in
        omega (arith, e, f, h)
    by_cases (inr past) (inl inside) =
        let e = ap (λ (t : Target). t.begin) (target_at-entry es potentials end rank inside) in
        let f = ap (λ (t : Target). t.begin) (target_at-end es potentials end (rank + 1) past) in
        let h = rises.inside rank inside in
        omega (arith, e, f, h)
    by_cases p (inr past) =
        let e = ap (λ (t : Target). t.begin) (target_at-end es potentials end rank past) in
        let f = ap (λ (t : Target). t.begin) (target_at-end es potentials end (rank + 1) (omega arith)) in
        omega (arith, e, f)

-- one target more is met
pub AreMetTo-next : (d : DataLists) (es : List Entry) (span : Span) (potentials : List ℤ) (end : Target) (rank : ℕ) → AreMetTo d es span potentials end rank → AreMetInto d es span potentials (target_at es potentials end rank) → AreMetTo d es span potentials end (rank + 1)
AreMetTo-next d es span potentials end rank so_far this =
    record { each = λ r below. by_cases r below (split r rank) }
  where
    by_cases : (r : ℕ) → r < rank + 1 → (r < rank) ⊎ (rank ≤ r) → AreMetInto d es span potentials (target_at es potentials end r)
    by_cases r below (inl less) = so_far.each r less
    by_cases r below (inr past) =
        let same : rank ≡ r = omega arith in
        subst (λ x. AreMetInto d es span potentials (target_at es potentials end x)) same this

-- what ends before a position ends before a later one
pub EndBefore-later : (es : List Entry) (by_end : List ℕ) (position later cursor : ℕ) → EndBefore es by_end position cursor → position ≤ later → EndBefore es by_end later cursor
EndBefore-later es by_end position later cursor before rises =
    λ k below. (let h = before k below in omega (arith, h, rises))
