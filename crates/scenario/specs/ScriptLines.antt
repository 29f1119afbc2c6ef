-- What each line of a script that reads gives, and which line is told of one that does not.
use Rattle.std.specs.Prelude.{◌≡◌, ℕ, ◌+◌, ◌<◌, ◌≤◌, List, [], ◌∷◌, ◌++◌, length, take, slice_index_or, unwrap_or, IsSome, Ok, Err, codes}
use Rattle.std.specs.List.{flat_map}
use Rattle.keys.specs.declared.command.Command.{Command}
use Rattle.scenario.specs.Scripts.{commands_of, spelled, with_line, script_after}
use Rattle.scenario.specs.declared.script.ScriptError.{ScriptError}
use Rattle.scenario.specs.declared.script.TheConstants.{MOST_COMMANDS}

-- the commands of a line that has some
abbrev pub own_commands : List ℕ → List Command
own_commands line = unwrap_or (commands_of line) []

-- each line has its commands, and these are the commands before and then those of the lines, in order
pub record AreCommandsOf (before : List Command) (lines : List (List ℕ)) (commands : List Command) : Type 0 where
  pub each : (place : ℕ) → place < length lines → IsSome (commands_of (slice_index_or lines place []))
  pub joined : commands ≡ before ++ flat_map own_commands lines
  pub few : length commands ≤ MOST_COMMANDS

-- the line at some place is refused so, and each line before it is read
pub record IsFirstLineAtFault (before : List Command) (first : ℕ) (lines : List (List ℕ)) (refused : ScriptError) : Type 0 where
  pub place : ℕ
  pub inside : place < length lines
  pub commands : List Command
  pub so_far : script_after before first (take place lines) ≡ Ok commands
  pub refuses : with_line (first + place) commands (slice_index_or lines place []) ≡ Err refused

-- what a line SEND_KEY with this character asks
abbrev pub sent : ℕ → List Command
sent c = unwrap_or (spelled (codes "SEND_KEY") (c ∷ [])) []

-- each character can be sent alone
abbrev pub AreSent : List ℕ → Type 0
AreSent text = (place : ℕ) → place < length text → IsSome (spelled (codes "SEND_KEY") (slice_index_or text place 0 ∷ []))
