-- What the answer of a call is, against the answer that a definition gives.
use Rattle.std.specs.Prelude.{Option, Some, None, Result, Ok, Err, ⊤, ◌≡◌}
use Rattle.mz_base.specs.declared.fault.FaultKind.{FaultKind}
use Rattle.mz_base.specs.declared.fault.ReadError.{ReadError}
use Rattle.mz_base.specs.declared.fault.ReadError.TheVariants.{Fault, NoMemory}

-- a definition goes on with the value, or stops at the first fault
infixl 10 ◌>>=◌
abbrev pub ◌>>=◌ : {A B E : Type 0} → Result A E → (A → Result B E) → Result B E
(Ok value) >>= next = next value
(Err fault) >>= next = Err fault

-- a refusal with a fault tells that the definition has it; one without, that memory ran out
abbrev pub Tells : {B F : Type 0} → Option F → Result B F → Type 0
Tells (Some fault) wanted = wanted ≡ Err fault
Tells None wanted = ⊤

-- the answer, its value seen by view and its error by fault, is the definition's, unless memory ran out
abbrev pub GivesBy : {A B E F : Type 0} → (E → Option F) → (A → B) → Result A E → Result B F → Type 0
GivesBy fault view (Ok value) wanted = wanted ≡ Ok (view value)
GivesBy fault view (Err error) wanted = Tells (fault error) wanted

-- the fault of a file that was not read
abbrev pub file_fault : ReadError → Option FaultKind
file_fault (Fault kind) = Some kind
file_fault NoMemory = None

-- the same of a reader of files
abbrev pub Gives : {A B : Type 0} → (A → B) → Result A ReadError → Result B FaultKind → Type 0
Gives view = GivesBy file_fault view
