-- What the tests of the limits say.
use Rattle.std.proofs.Common.{◌≡◌, ℤ, true, arith}
use Rattle.std.proofs.lemmas.Bool.Decides.{nat_tests}
use Rattle.std.proofs.lemmas.Int.{ints}
use Rattle.mz_base.specs.Data.{IsCost}
use Rattle.mz_base.specs.Limits.{is_cost}

pub IsCost-from_test : (cost : ℤ) → is_cost cost ≡ true → IsCost cost
IsCost-from_test cost is = record { above = grind (arith, ints, nat_tests); below = grind (arith, ints, nat_tests) }
