-- What a key does in each mode: docs/FORMATS.md, "Keys".
use Rattle.std.specs.Prelude.{◌≡◌, ℕ, Option, Some, None}
use Rattle.mz_base.specs.declared.report.Mode.{Mode}
use Rattle.mz_base.specs.declared.report.Mode.TheVariants as mode
use Rattle.keys.specs.declared.action.Action.{Action}
use Rattle.keys.specs.declared.action.Action.TheVariants as action
use Rattle.keys.specs.declared.key.Key.{Key}
use Rattle.keys.specs.declared.key.Key.TheVariants as key

-- a row of the table: what a key does in precomposition, in composition, in conversion
pub record Row : Type 0 where
  pub precomposition : Option Action
  pub composition : Option Action
  pub conversion : Option Action

abbrev pub row : Option Action → Option Action → Option Action → Row
row p c v = record { precomposition = p; composition = c; conversion = v }

abbrev pub row_of : Key → Row
row_of (key.Char c) = row (Some (action.Insert c)) (Some (action.Insert c)) (Some (action.CommitThenInsert c))
row_of key.Space = row None (Some action.Convert) (Some action.Next)
row_of key.Enter = row None (Some action.Commit) (Some action.Commit)
row_of key.Escape = row None (Some action.Cancel) (Some action.Cancel)
row_of key.Backspace = row None (Some action.Backspace) (Some action.Cancel)
row_of key.Delete = row None (Some action.Delete) None
row_of key.Left = row None (Some action.Left) (Some action.Left)
row_of key.Right = row None (Some action.Right) (Some action.Right)
row_of key.Home = row None (Some action.Home) (Some action.Home)
row_of key.End = row None (Some action.End) (Some action.End)
row_of key.Up = row None None (Some action.Previous)
row_of key.Down = row None None (Some action.Next)
row_of key.ShiftLeft = row None None (Some action.Narrow)
row_of key.ShiftRight = row None None (Some action.Widen)

-- what a key does in a mode
abbrev pub action_in : Mode → Key → Option Action
action_in mode.P k = (row_of k).precomposition
action_in mode.C k = (row_of k).composition
action_in mode.V k = (row_of k).conversion

-- the key is a character
abbrev pub IsChar : Key → Type 0
IsChar k = (c : ℕ) × (k ≡ key.Char c)
