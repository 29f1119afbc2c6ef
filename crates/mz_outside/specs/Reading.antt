-- What a call that reads of a store says. The store tells its files by name where there are `Some`, and counts its
-- faults; `old` is before the call, and `new` after it.
use Rattle.std.specs.Prelude.{◌≡◌, ℕ, ◌≤◌, List, Option, Some, None, Result, Vec, IfOk, IfSome, OnOk, IsErrOf}
use Rattle.std.specs.declared.alloc.Global.{Global}
use Rattle.mz_outside.specs.Causes.{Rose}
use Rattle.mz_outside.specs.declared.store.StoreFault.{StoreFault}
use Rattle.mz_outside.specs.declared.store.StoreFault.TheVariants.{Absent, Failed, NoMemory}

-- the bytes of each file that there is, where the store tells its files
abbrev pub ToldFiles : Type 0
ToldFiles = Option (List ℕ → Option (List ℕ))

-- One read. Each failed read is counted, and nothing else is.
pub record IsRead (old_files new_files : ToldFiles) (old_faults new_faults : ℕ) (name : List ℕ) (answer : Result (Vec ℕ Global) StoreFault) : Type 0 where
  pub told : IfOk answer (λ bytes. IfSome old_files (λ named. named name ≡ Some bytes.items))
  pub absent : IsErrOf answer Absent → IfSome old_files (λ named. named name ≡ None)
  pub same : new_files ≡ old_files
  pub later : old_faults ≤ new_faults
  pub failed : IsErrOf answer Failed → Rose old_faults new_faults
  pub ok_count : OnOk answer (new_faults ≡ old_faults)
  pub absent_count : IsErrOf answer Absent → new_faults ≡ old_faults
  pub memory_count : IsErrOf answer NoMemory → new_faults ≡ old_faults

-- However often it reads: the files stay, no fault is forgotten, and the answer tells one only where the count rose.
pub record KeepsStore (old_files new_files : ToldFiles) (old_faults new_faults : ℕ) (tells_fault : Type 0) : Type 0 where
  pub same : new_files ≡ old_files
  pub later : old_faults ≤ new_faults
  pub failed : tells_fault → Rose old_faults new_faults
