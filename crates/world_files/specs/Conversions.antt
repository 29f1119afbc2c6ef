-- The verdict on a certificate, and on what is written of an answer: docs/FORMATS.md, "Convert and verify".
use Rattle.std.specs.Prelude.{◌≡◌, ℕ, List, [], length, Result, Ok}
use Rattle.mz_base.specs.Data.{DataLists}
use Rattle.mz_base.specs.Lines.{lines_of}
use Rattle.mz_base.specs.declared.lattice.Certificate.{Certificate}
use Rattle.mz_base.specs.declared.lattice.Lattice.{Lattice}
use Rattle.mz_base.specs.declared.status.CertFault.{CertFault}
use Rattle.cert_text.specs.Readings.{certificate_of}
use Rattle.conversion_text.specs.Texts.{conversion_text}
use Rattle.conversion_meaning.specs.Answers.{answer, first_answer}
use Rattle.conversion_meaning.specs.Certificates.{claim_of}
use Rattle.conversion_meaning.specs.Lattices.{IsLatticeOf}
use Rattle.conversion_meaning.specs.Paths.{whole}
use Rattle.conversion_meaning.specs.Verdicts.{IsVerdict}

-- the verdict on a certificate for a key, within its own bounds
pub record IsVerdictOn (set : DataLists) (key : List ℕ) (certificate : Certificate) (verdict : Result (Unit {0}) CertFault) : Type 0 where
  pub lattice : Lattice
  pub of_key : IsLatticeOf set [] lattice
  pub key_is : lattice.key ≡ key
  pub bounds_are : lattice.bounds ≡ certificate.bounds
  pub verdict_is : IsVerdict (claim_of set lattice.entries (whole lattice 0) certificate) verdict

-- what is written of a key's answer, segments and all, reads as its first answer, and the first answer holds
pub record AnswerHolds (set : DataLists) (key bounds : List ℕ) : Type 0 where
  pub reads : certificate_of (length key) (lines_of (conversion_text key (answer set [] [] [] key bounds))) ≡ Ok (first_answer set [] key bounds)
  pub holds : IsVerdictOn set key (first_answer set [] key bounds) (Ok tt)
