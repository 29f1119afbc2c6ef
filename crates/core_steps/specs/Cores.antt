-- A run of several clients, as far as it is.
use Rattle.std.specs.Prelude.{◌≡◌, Some, None, Result, Ok, Err}
use Rattle.mz_base.specs.declared.event.Event.{Event}
use Rattle.run_meaning.specs.Plays.{apply}
use Rattle.run_meaning.specs.States.{State, start}
use Rattle.run_meaning.specs.Worlds.{World}
use Rattle.core_steps.specs.declared.error.StepError.{StepError}
use Rattle.core_steps.specs.declared.error.StepError.TheVariants as error

-- what it was given, and what stands
pub record Ran : Type 0 where
  pub world : World
  pub state : State

-- before any event
abbrev pub beginning : World → Ran
beginning world = record { world = world; state = start world }

-- the same world, with this that stands
abbrev pub now : Ran → State → Ran
now ran state = record ran { state = state }

-- the event came
pub record IsMade (before : Ran) (e : Event) (after : Ran) : Type 0 where
  pub world : after.world ≡ before.world
  pub state : apply before.world before.state e ≡ Some after.state

-- the event may not come, and all is as before
pub record IsRefused (before : Ran) (e : Event) (after : Ran) : Type 0 where
  pub illegal : apply before.world before.state e ≡ None
  pub same : after ≡ before

-- What a step did: the event came; or it may not come, or memory was refused, and all is as before.
abbrev pub IsStepped : {U : Type 0} → Ran → Event → Result U StepError → Ran → Type 0
IsStepped before e (Ok u) after = IsMade before e after
IsStepped before e (Err error.Illegal) after = IsRefused before e after
IsStepped before e (Err error.NoMemory) after = after ≡ before
