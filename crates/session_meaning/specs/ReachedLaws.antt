-- The laws of sessions that commands reach.
use Rattle.std.specs.Prelude.{◌≡◌, ◌⊎◌, ℕ, ℤ, true, false, length, List, Option, Some, None, IfSome}
use Rattle.std.specs.List.{All, flat_map}
use Rattle.mz_base.specs.declared.lattice.Pair.{Pair}
use Rattle.mz_base.specs.declared.report.Mode.TheVariants as mode
use Rattle.conversion_meaning.specs.Lattices.{AreBounds}
use Rattle.conversion_meaning.specs.Segments.{resized}
use Rattle.keys.specs.Bindings.{action_in}
use Rattle.keys.specs.Names.{key_of}
use Rattle.keys.specs.declared.action.Action.TheVariants as action
use Rattle.keys.specs.declared.command.Command.{Command}
use Rattle.keys.specs.declared.command.Command.TheVariants as command
use Rattle.keys.specs.declared.key.Key.{Key}
use Rattle.session_meaning.specs.Fields.{IsField, IsKeyField, IsLineField, IsStepField}
use Rattle.session_meaning.specs.Laws.{is_learned}
use Rattle.session_meaning.specs.Outcomes.{parts_of}
use Rattle.session_meaning.specs.Reached.{AreTakenSound, IsPinnedSound, IsSound, IsStage, reached}
use Rattle.session_meaning.specs.Stages.{Choice, Composition, Pinned, Session, Stage, C, P, V, reading}
use Rattle.session_meaning.specs.Steps.{gone, learned, needs, step}

-- ---- What holds of each

-- a command keeps it
abbrev pub SoundStays : Type 0
SoundStays =
    (s : Session) (c : Command) (taken : Option Pinned) → IsSound s → IfSome taken IsPinnedSound → IsSound (step s c taken).session

-- so it holds of each session that commands reach
abbrev pub ReachedIsSound : Type 0
ReachedIsSound = (commands : List (Command × Option Pinned)) → AreTakenSound commands → IsSound (reached commands)

-- ---- Composition and conversion

-- the composition of a stage; none in precomposition
abbrev pub composition_in : Stage → Option Composition
composition_in P = None
composition_in (C c) = Some c
composition_in (V c v) = Some c

-- what is converted is the composition that was there before the command
abbrev pub CompositionStays : Type 0
CompositionStays =
    (s : Session) (command : Command) (taken : Option Pinned) (c : Composition) (v : Choice) → (step s command taken).session.stage ≡ V c v → composition_in s.stage ≡ Some c

-- a key that goes back from conversion leads to it, and the line shows it as it was
abbrev pub EscapeShowsComposition : Type 0
EscapeShowsComposition =
    (s : Session) (c : Composition) (v : Choice) (k : Key) (taken : Option Pinned) → IsSound s → s.stage ≡ V c v → action_in mode.V k ≡ Some action.Cancel → step s (command.Key k) taken ≡ gone s (C c) false

-- a key makes the segment in focus longer, or shorter
abbrev pub IsResize : Key → Type 0
IsResize k = (action_in mode.V k ≡ Some action.Widen) ⊎ (action_in mode.V k ≡ Some action.Narrow)

-- the same segment is in focus then, whether or not it could be resized
abbrev pub ResizeKeepsFocus : Type 0
ResizeKeepsFocus =
    (s : Session) (c : Composition) (v : Choice) (k : Key) (taken : Option Pinned) → s.stage ≡ V c v → IsResize k → (w : Choice) × ((step s (command.Key k) taken).session.stage ≡ V c w) × (w.focus ≡ v.focus)

-- the bounds of a resize are bounds of the reading
abbrev pub ResizedAreBounds : Type 0
ResizedAreBounds =
    (c : Composition) (v : Choice) (by : ℤ) → IsStage (V c v) → IfSome (resized (parts_of v) v.focus by (length (reading c))) (AreBounds (reading c))

-- what is learned of a conversion, its keys joined, is what was read
abbrev pub LearnedKeysAreReading : Type 0
LearnedKeysAreReading =
    (s : Session) (command : Command) (c : Composition) (v : Choice) → IsSound s → s.stage ≡ V c v → is_learned (needs s command) ≡ true → flat_map (λ (pair : Pair). pair.key) (learned s command) ≡ reading c

-- ---- Texts

-- no text of a line has a tab or a line feed, where no text of the data and no key that was typed has one
abbrev pub LinesAreFields : Type 0
LinesAreFields =
    (commands : List (Command × Option Pinned)) (command : Command × Option Pinned) → All IsStepField commands → IsStepField command → IsLineField (step (reached commands) command.0 command.1).line

-- nor has a value that is learned, so a history that has none gets none
abbrev pub LearnedAreFields : Type 0
LearnedAreFields =
    (commands : List (Command × Option Pinned)) (command : Command) → All IsStepField commands → All (λ (pair : Pair). IsField pair.value) (learned (reached commands) command)

-- and the name of a key gives no other character
abbrev pub KeysAreFields : Type 0
KeysAreFields = (name : List ℕ) (k : Key) → key_of name ≡ Some k → IsKeyField k
