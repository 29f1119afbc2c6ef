-- What a job's files read as.
use Rattle.std.specs.Prelude.{Result, Ok, Err}
use Rattle.mz_base.specs.Data.{DataLists}
use Rattle.mz_base.specs.declared.status.BadSet.{BadSet}

-- the lists of the set that was read, or the fault
abbrev pub lists_read : {A : Type 0} → (A → DataLists) → Result A BadSet → Result DataLists BadSet
lists_read lists (Ok read) = Ok (lists read)
lists_read lists (Err bad) = Err bad
