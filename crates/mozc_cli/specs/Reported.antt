-- What the parts of the top call answer, against what the files mean.
use Rattle.std.specs.Prelude.{◌≡◌, ℕ, true, false, List, Option, Result, Ok, Err}
use Rattle.mz_base.specs.declared.status.Status.{Status}
use Rattle.mz_base.specs.declared.status.Status.TheVariants as status
use Rattle.mz_outside.specs.Taken.{with_more, AddsFront}
use Rattle.world_files.specs.Reading.{UnlessFree}
use Rattle.mz_base.specs.declared.status.Refusal.{Refusal}
use Rattle.mozc_cli.specs.Settles.{Output as Meant}
use Rattle.mozc_cli.specs.declared.outputs.Output.{Output}

-- an output of the code, as what it writes
abbrev pub shown : Output → Meant
shown output = record { text = output.text.items; unmet = output.unmet }

-- an answer is what the command gives, unless it is a free refusal
abbrev pub TellsMeant : (Result Meant Refusal → Type 0) → Result Output Refusal → Type 0
TellsMeant Gives (Ok output) = Gives (Ok (shown output))
TellsMeant Gives (Err refused) = UnlessFree refused (Gives (Err refused))

-- the output was written: whole, or a prefix of it
abbrev pub Writes : Meant → Option (List ℕ) → Option (List ℕ) → Status → Type 0
Writes output before after status.Ok = (output.unmet ≡ false) × (after ≡ with_more before output.text)
Writes output before after status.Unmet = (output.unmet ≡ true) × (after ≡ with_more before output.text)
Writes output before after status.WriteFault = AddsFront before after output.text
Writes output before after _ = ⊥
