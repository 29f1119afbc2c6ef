-- Certificates whose text reads: docs/FORMATS.md, "Certificates".
use Rattle.std.specs.Prelude.{ℕ, ◌+◌, ◌^◌, ◌<◌, ◌≤◌, ℤ, pos, negsuc, All}
use Rattle.mz_base.specs.declared.lattice.Certificate.{Certificate}
use Rattle.cert_text.specs.Fields.{RiseWithin}
use Rattle.cert_text.specs.declared.field.TheConstants.{MOST_ORDINAL}
use Rattle.mz_base.specs.declared.numbers.TheConstants.{MOST_SIGNED_DIGITS}

-- a number of few enough digits
abbrev pub IsShort : ℤ → Type 0
IsShort (pos n) = n < 10 ^ MOST_SIGNED_DIGITS
IsShort (negsuc n) = n + 1 < 10 ^ MOST_SIGNED_DIGITS

-- the bounds are those of a key of this length, and the numbers can be written
pub record CanBeWritten (key_length : ℕ) (certificate : Certificate) : Type 0 where
  pub bounds : RiseWithin key_length certificate.bounds
  pub path : All (λ ordinal. ordinal ≤ MOST_ORDINAL) certificate.path
  pub potentials : All IsShort certificate.potentials
  pub total : IsShort certificate.total
