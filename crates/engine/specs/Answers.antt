-- What building answers, against what the files give.
use Rattle.std.specs.Prelude.{ℕ, Option, Some, None, Result, Ok, Err}
use Rattle.mz_base.specs.Answers.{GivesBy}
use Rattle.mz_base.specs.declared.fault.Fault.{Fault}
use Rattle.mz_base.specs.declared.fault.ReadError.{ReadError}
use Rattle.mz_base.specs.declared.fault.ReadError.TheVariants as read
use Rattle.mz_base.specs.declared.fault.Role.{Role}
use Rattle.engine.specs.declared.error.BuildError.{BuildError}
use Rattle.engine.specs.declared.error.BuildError.TheVariants as build

-- the fault of a data set that was not built
abbrev pub set_fault : BuildError → Option Fault
set_fault (build.Fault fault) = Some fault
set_fault build.NoMemory = None

-- the answer, its value seen by view, is what the files give, unless memory ran out
abbrev pub Gives : {A B : Type 0} → (A → B) → Result A BuildError → Result B Fault → Type 0
Gives view = GivesBy set_fault view

-- a reader's answer for the nth file of a role
abbrev pub located : {A : Type 0} → Role → ℕ → Result A ReadError → Result A BuildError
located role nth (Ok value) = Ok value
located role nth (Err (read.Fault kind)) = Err (build.Fault (record { role = role; nth = nth; kind = kind }))
located role nth (Err read.NoMemory) = Err build.NoMemory
