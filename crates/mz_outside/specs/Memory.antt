-- A store and a sink in memory. Each tells all, and fails at the calls of its plan.
use Rattle.std.specs.Prelude.{◌≡◌, ℕ, List, true, false, Some, None, Result, Ok, Err, Vec}
use Rattle.std.specs.declared.alloc.Global.{Global}
use Rattle.mz_outside.specs.FileList.{NamedFile, file_named}
use Rattle.mz_outside.specs.Plan.{FaultPlan, next_fails}
use Rattle.mz_outside.specs.declared.store.StoreFault.{StoreFault}
use Rattle.mz_outside.specs.declared.store.StoreFault.TheVariants.{Absent, Failed, NoMemory}

-- the files that are there, and the reads that fail
pub record StoreInMemory : Type 0 where
  pub files : List NamedFile
  pub plan : FaultPlan

-- the answer to a read: a fault where it is planned, else the file of this name, unless memory ran out
abbrev pub Reads : StoreInMemory → List ℕ → Result (Vec ℕ Global) StoreFault → Type 0
Reads store name (Ok bytes) = (next_fails store.plan ≡ false) × (file_named store.files name ≡ Some bytes.items)
Reads store name (Err Absent) = (next_fails store.plan ≡ false) × (file_named store.files name ≡ None)
Reads store name (Err Failed) = next_fails store.plan ≡ true
Reads store name (Err NoMemory) = next_fails store.plan ≡ false

-- the bytes that were taken, the most that one write takes, and the writes that fail
pub record SinkInMemory : Type 0 where
  pub bytes : List ℕ
  pub most : ℕ
  pub plan : FaultPlan
