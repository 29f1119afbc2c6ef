-- What is written and answered settles what the command gives.
use Rattle.std.proofs.Common.{ℕ, List, Option, Result, Ok}
use Rattle.mz_base.specs.declared.status.Status.{Status}
use Rattle.mz_base.specs.declared.status.Status.TheVariants as status
use Rattle.mz_base.specs.declared.status.Refusal.{Refusal}
use Rattle.mozc_cli.specs.Reported.{Writes}
use Rattle.mozc_cli.specs.Settles.{Output, Settles}

module _ (Gives : Result Output Refusal → Type 0) (before after : Option (List ℕ)) where
  pub written-settles : (output : Output) (answer : Status) → Gives (Ok output) → Writes output before after answer → Settles Gives before after answer
  written-settles output status.Ok gives writes =
      record { text = output.text; gives = rw (← writes.0) gives; written = writes.1 }
  written-settles output status.Unmet gives writes =
      record { text = output.text; gives = rw (← writes.0) gives; written = writes.1 }
  written-settles output status.WriteFault gives writes = record { output = output; gives = gives; front = writes }
  written-settles output _ gives writes = absurd writes
