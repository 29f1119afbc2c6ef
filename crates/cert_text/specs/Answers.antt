-- What the answer of the certificate's reader is, against the answer that the definition gives.
use Rattle.std.specs.Prelude.{ℕ, Option, Some, None, Result}
use Rattle.mz_base.specs.Answers.{GivesBy}
use Rattle.cert_text.specs.declared.error.TextError.{TextError}
use Rattle.cert_text.specs.declared.error.TextError.TheVariants.{Line, NoMemory}

-- the line that does not read
abbrev pub bad_line : TextError → Option ℕ
bad_line (Line number) = Some number
bad_line NoMemory = None

-- the answer, its value seen by view, is the definition's, unless memory ran out
abbrev pub GivesCertificate : {A B : Type 0} → (A → B) → Result A TextError → Result B ℕ → Type 0
GivesCertificate view = GivesBy bad_line view
