-- What holds of each session that commands reach: docs/FORMATS.md, "Session".
use Rattle.std.specs.Prelude.{◌≡◌, ⊤, ℕ, ◌<◌, List, Option, IfSome, IsNone, IsSome, length, slice_index_or}
use Rattle.std.specs.List.{All, fold}
use Rattle.mz_base.specs.Data.{AreDataSound}
use Rattle.mz_base.specs.declared.conversion.Conversion.{Conversion}
use Rattle.mz_base.specs.declared.conversion.Segment.{Segment}
use Rattle.conversion_meaning.specs.Lattices.{AreBounds, IsKey}
use Rattle.keys.specs.declared.command.Command.{Command}
use Rattle.session_meaning.specs.Outcomes.{conversion_of}
use Rattle.session_meaning.specs.Stages.{Choice, Composition, Pinned, Session, Stage, C, P, V, no_segment, opening, preedit, reading}
use Rattle.session_meaning.specs.Steps.{step}
use Rattle.session_meaning.specs.declared.need.Need.{Need}
use Rattle.session_meaning.specs.declared.need.Need.TheVariants as need

-- ---- What is taken

-- there are data exactly where the need has a take
abbrev pub IsTaken : Need → Option Pinned → Type 0
IsTaken need.Nothing taken = IsNone taken
IsTaken need.Take taken = IsSome taken
IsTaken need.Learn taken = IsNone taken
IsTaken need.LearnThenTake taken = IsSome taken

-- the data are within their limits
pub record IsPinnedSound (pinned : Pinned) : Type 0 where
  pub lists : AreDataSound pinned.lists

-- ---- A session that commands reach

-- something is shown, with such data
pub record IsComposed (c : Composition) : Type 0 where
  pub pinned : IsPinnedSound c.pinned
  pub shows : 0 < length (preedit c)

-- the reading is a key, and this its conversion within some bounds
pub record IsConverted (c : Composition) (conversion : Conversion) : Type 0 where
  pub key : IsKey (reading c)
  pub within : (bounds : List ℕ) × AreBounds (reading c) bounds × (conversion ≡ conversion_of c bounds)

abbrev pub segment_at : Choice → ℕ → Segment
segment_at v i = slice_index_or v.conversion.segments i no_segment

abbrev pub chosen_at : Choice → ℕ → ℕ
chosen_at v i = slice_index_or v.chosen i 0

-- a segment is in focus, and each has a chosen candidate, which stands in its list
pub record IsChosen (v : Choice) : Type 0 where
  pub focus : v.focus < length v.conversion.segments
  pub count : length v.chosen ≡ length v.conversion.segments
  pub inside : (i : ℕ) → i < length v.conversion.segments → chosen_at v i < length (segment_at v i).candidates

abbrev pub IsStage : Stage → Type 0
IsStage P = ⊤
IsStage (C c) = IsComposed c
IsStage (V c v) = IsComposed c × IsConverted c v.conversion × IsChosen v

abbrev pub IsSound : Session → Type 0
IsSound session = IsStage session.stage

-- ---- Runs

-- the session after these commands, each with the data that it takes
abbrev pub reached : List (Command × Option Pinned) → Session
reached commands =
    fold (λ session (command : Command × Option Pinned). (step session command.0 command.1).session) opening commands

-- all data that are taken are within their limits
abbrev pub AreTakenSound : List (Command × Option Pinned) → Type 0
AreTakenSound commands = All (λ (command : Command × Option Pinned). IfSome command.1 IsPinnedSound) commands
