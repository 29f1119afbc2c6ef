-- The order of ends and that of begins, as halving asks for them.
use Rattle.std.proofs.Common.{◌≡◌, refl, ap, ℕ, ◌<◌, ◌≤◌, Bool, true, false, ltb, List, length, get_or, arith}
use Rattle.std.specs.List.{AllPairs}
use Rattle.std.specs.List.Sorted.{IsNonDecreasingBy, IsPartitionPoint}
use Rattle.std.proofs.lemmas.Bool.Decides.{nat_tests}
use Rattle.mz_base.specs.declared.lattice.Entry.{Entry}
use Rattle.conversion_meaning.specs.Lattices.{AreInOrder, IsByEnd, IsCursor, entry, no_entry}
use Rattle.lattice.specs.Begins.{IsBegin}

-- what does not fall from a lower place to a higher one
rises : {X : Type 0} (n : X → ℕ) (xs : List X) (d : X) (i j : ℕ) → i ≤ j → (i < j → n (get_or xs i d) ≤ n (get_or xs j d)) → n (get_or xs i d) ≤ n (get_or xs j d)
rises n xs d i j below later = by_test (ltb i j) refl
  where
    by_test : (b : Bool) → ltb i j ≡ b → n (get_or xs i d) ≤ n (get_or xs j d)
    by_test true less = later (grind (arith, nat_tests, less))
    by_test false more =
        let same : i ≡ j = grind (arith, nat_tests, more, below) in
        let e = ap (λ k. n (get_or xs k d)) same in
        omega (arith, e)

-- where an entry ends
abbrev pub end_at : List Entry → ℕ → ℕ
end_at es o = (entry es o).end

pub IsNonDecreasingBy-ends : (es : List Entry) (by_end : List ℕ) → IsByEnd es by_end → IsNonDecreasingBy (end_at es) by_end
IsNonDecreasingBy-ends es by_end is i j d below inside =
    rises (end_at es) by_end d i j below (λ less. (is.rising i j d less inside).ends)

-- where it begins
abbrev pub begin_at : Entry → ℕ
begin_at e = e.begin

pub IsNonDecreasingBy-begins : (es : List Entry) → AllPairs AreInOrder es → IsNonDecreasingBy begin_at es
IsNonDecreasingBy-begins es rising i j d below inside =
    rises begin_at es d i j below (λ less. (rising i j d less inside).begins)

less_of : (a b : ℕ) → ltb a b ≡ true → a < b
less_of a b h = grind (arith, nat_tests)

not_less_of : (a b : ℕ) → ltb a b ≡ false → b ≤ a
not_less_of a b h = grind (arith, nat_tests)

pub IsCursor-at : (es : List Entry) (by_end : List ℕ) (position cursor : ℕ) → cursor ≤ length by_end → IsPartitionPoint (λ o. ltb (end_at es o) position ≡ true) (λ o. ltb (end_at es o) position ≡ false) by_end cursor → IsCursor es by_end position cursor
IsCursor-at es by_end position cursor within at = record {
  within = within;
  before = λ k low. less_of (end_at es (get_or by_end k 0)) position (at.0 k 0 (omega arith) low);
  after = λ k high low. not_less_of (end_at es (get_or by_end k 0)) position (at.1 k 0 high low);
}

pub IsBegin-at : (es : List Entry) (position ordinal : ℕ) → ordinal ≤ length es → IsPartitionPoint (λ e. ltb (begin_at e) position ≡ true) (λ e. ltb (begin_at e) position ≡ false) es ordinal → IsBegin es position ordinal
IsBegin-at es position ordinal within at = record {
  within = within;
  before = λ o low. less_of (entry es o).begin position (at.0 o no_entry (omega arith) low);
  after = λ o high low. not_less_of (entry es o).begin position (at.1 o no_entry high low);
}
