-- A signed number that fits is not changed by a cast.
use Rattle.std.proofs.Common.{◌≡◌, ◌<◌, w64, to_z, of_z}
use Rattle.std.specs.Prelude.{ℤ}
use Rattle.std.proofs.lemmas.Int.{to_z-of_z}
use lib.Signed.{mag}

pub kept : (x : ℤ) → mag x < 9223372036854775808 → to_z w64 (of_z w64 x) ≡ x
kept x small = to_z-of_z w64 x (record { sfits = small })
