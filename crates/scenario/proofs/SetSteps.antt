-- One set more of those that are tested.
use Rattle.std.proofs.Common.{◌≡◌, ℕ, ◌+◌, ◌-◌, ◌<◌, Bool, true, suc, arith, refl}
use Rattle.std.specs.List.{list_all, range_with_len}

-- where the first number passes, all pass where the others do
pub list_all-more : (passes : ℕ → Bool) (first end : ℕ) → first < end → passes first ≡ true → list_all passes (range_with_len (first + 1) (end - (first + 1))) ≡ list_all passes (range_with_len first (end - first))
list_all-more passes first end below is =
    let more : end - first ≡ suc (end - (first + 1)) = omega arith in rw (more, is) refl
