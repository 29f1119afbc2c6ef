-- What a part of building answers is what the files give there.
use Rattle.std.proofs.Common.{◌≡◌, ℕ, Result, Ok, Err, refl}
use Rattle.mz_base.specs.Answers as base
use Rattle.mz_base.specs.declared.fault.Fault.{Fault}
use Rattle.mz_base.specs.declared.fault.FaultKind.{FaultKind}
use Rattle.mz_base.specs.declared.fault.ReadError.{ReadError}
use Rattle.mz_base.specs.declared.fault.ReadError.TheVariants as read
use Rattle.mz_base.specs.declared.fault.Role.{Role}
use Rattle.engine.specs.Answers.{Gives, located}
use Rattle.engine.specs.Sets.{in_file}
use Rattle.engine.specs.declared.error.BuildError.{BuildError}
use Rattle.engine.specs.declared.error.BuildError.TheVariants as build

-- a reader's answer for a file is what the file gives the set
pub Gives-located : {A B : Type 0} (view : A → B) (role : Role) (nth : ℕ) (answer : Result A ReadError) (wanted : Result B FaultKind) → base.Gives view answer wanted → Gives view (located role nth answer) (in_file role nth wanted)
Gives-located view role nth (Ok value) wanted given = rw given refl
Gives-located view role nth (Err (read.Fault kind)) wanted given = rw given refl
Gives-located view role nth (Err read.NoMemory) wanted given = tt
