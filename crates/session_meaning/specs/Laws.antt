-- The laws of a session's steps.
use Rattle.std.specs.Prelude.{◌≡◌, ◌≢◌, ◌⊎◌, Bool, true, false, [], Option, Some, None}
use Rattle.std.specs.List.{flat_map}
use Rattle.mz_base.specs.declared.lattice.Pair.{Pair}
use Rattle.mz_base.specs.declared.report.Word.{Word}
use Rattle.mz_base.specs.declared.report.Word.TheVariants as word
use Rattle.keys.specs.declared.command.Command.{Command}
use Rattle.session_meaning.specs.Stages.{Pinned, Session, Stage, C, P, V, mode_of, version_of}
use Rattle.session_meaning.specs.Steps.{learned, needs, step}
use Rattle.session_meaning.specs.declared.need.Need.{Need}
use Rattle.session_meaning.specs.declared.need.Need.TheVariants as need

-- a word of a line after which the session is as it was
abbrev pub is_quiet : Word → Bool
is_quiet word.Pass = true
is_quiet word.Full = true
is_quiet word.Met = true
is_quiet word.Differs = true
is_quiet _ = false

-- such a command changes nothing, but that no conversion is new
abbrev pub QuietStays : Type 0
QuietStays =
    (s : Session) (c : Command) (taken : Option Pinned) → is_quiet (step s c taken).line.word ≡ true → (step s c taken).session ≡ record s { fresh = false }

-- a line has the mode and the version of the session after it
abbrev pub LineHasMode : Type 0
LineHasMode =
    (s : Session) (c : Command) (taken : Option Pinned) → (step s c taken).line.mode ≡ mode_of (step s c taken).session.stage

abbrev pub LineHasVersion : Type 0
LineHasVersion =
    (s : Session) (c : Command) (taken : Option Pinned) → (step s c taken).line.version ≡ version_of (step s c taken).session.stage

-- a text that is committed is the last commit
abbrev pub ResultIsLast : Type 0
ResultIsLast =
    (s : Session) (c : Command) (taken : Option Pinned) → (step s c taken).line.result ≢ [] → (step s c taken).session.last ≡ (step s c taken).line.result

-- what is committed is learned first
abbrev pub is_learned : Need → Bool
is_learned need.Learn = true
is_learned need.LearnThenTake = true
is_learned _ = false

-- what is learned, joined, is what is committed
abbrev pub LearnedIsResult : Type 0
LearnedIsResult =
    (s : Session) (c : Command) (taken : Option Pinned) → is_learned (needs s c) ≡ true → (step s c taken).line.result ≡ flat_map (λ (pair : Pair). pair.value) (learned s c)

-- data are taken
abbrev pub is_taken : Need → Bool
is_taken need.Take = true
is_taken need.LearnThenTake = true
is_taken _ = false

-- they are taken in precomposition, or by a command that commits and learns
abbrev pub TakesComeFirst : Type 0
TakesComeFirst =
    (s : Session) (c : Command) → is_taken (needs s c) ≡ true → (s.stage ≡ P) ⊎ (needs s c ≡ need.LearnThenTake)

-- the data of a stage; none in precomposition
abbrev pub pinned_in : Stage → Option Pinned
pinned_in P = None
pinned_in (C c) = Some c.pinned
pinned_in (V c v) = Some c.pinned

-- the data after a step are those before, or those that were taken, or there are none
abbrev pub DataStay : Type 0
DataStay =
    (s : Session) (c : Command) (taken : Option Pinned) → (pinned_in (step s c taken).session.stage ≡ pinned_in s.stage) ⊎ ((pinned_in (step s c taken).session.stage ≡ taken) ⊎ (pinned_in (step s c taken).session.stage ≡ None))
