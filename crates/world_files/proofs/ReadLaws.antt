-- What a store is left with, where a call that reads nothing follows one that succeeded.
use Rattle.std.proofs.Common.{◌≢◌, ℕ, Option, Result, Ok, Err}
use Rattle.world_files.specs.Reading.{Files, Reads}
use Rattle.mz_base.specs.declared.status.Refusal.{Refusal}
use Rattle.mz_base.specs.declared.status.Refusal.TheVariants as refusal

pub Reads-after : {A B : Type 0} (files_before files_after : Option Files) (before after : ℕ) (value : A) (answer : Result B Refusal) → Reads files_before files_after before after (Ok value) → answer ≢ Err refusal.ReadFault → Reads files_before files_after before after answer
Reads-after files_before files_after before after value (Ok made) reads other =
    record { same = reads.same; later = reads.later; fault = λ is. absurd (other is); memory = λ is. reads.success; success = reads.success }
Reads-after files_before files_after before after value (Err refused) reads other =
    record { same = reads.same; later = reads.later; fault = λ is. absurd (other is); memory = λ is. reads.success; success = tt }
