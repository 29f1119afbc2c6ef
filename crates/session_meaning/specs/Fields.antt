-- Texts that are a field of a report: docs/FORMATS.md, "Report".
use Rattle.std.specs.Prelude.{◌≢◌, ⊤, ℕ, List, Option, IfSome}
use Rattle.std.specs.List.{All}
use Rattle.mz_base.specs.Data.{DataLists}
use Rattle.mz_base.specs.declared.data.ValueRow.{ValueRow}
use Rattle.mz_base.specs.declared.data.WordRow.{WordRow}
use Rattle.mz_base.specs.declared.lattice.Pair.{Pair}
use Rattle.mz_base.specs.declared.report.Line.{Line}
use Rattle.mz_base.specs.declared.romaji.Rule.{Rule}
use Rattle.mz_base.specs.declared.user.UserRow.{UserRow}
use Rattle.keys.specs.declared.command.Command.{Command}
use Rattle.keys.specs.declared.command.Command.TheVariants as command
use Rattle.keys.specs.declared.key.Key.{Key}
use Rattle.keys.specs.declared.key.Key.TheVariants as key
use Rattle.session_meaning.specs.Stages.{Pinned}

-- no tab and no line feed, the two characters that part fields and lines
abbrev pub IsFieldCharacter : ℕ → Type 0
IsFieldCharacter c = (c ≢ 9) × (c ≢ 10)

abbrev pub IsField : List ℕ → Type 0
IsField text = All IsFieldCharacter text

-- what a rule of the romaji table leaves
pub record IsRuleField (rule : Rule) : Type 0 where
  pub output : IsField rule.output
  pub pending : IsField rule.pending

-- so are all texts of the data that can be shown
pub record AreListsFields (d : DataLists) : Type 0 where
  pub rules : All IsRuleField d.rules
  pub words : All (λ (row : WordRow). IsField row.value) d.words
  pub symbols : All (λ (row : ValueRow). IsField row.value) d.symbols
  pub kanji : All (λ (row : ValueRow). IsField row.value) d.kanji

-- and of the history, and of the user's words
pub record ArePinnedFields (pinned : Pinned) : Type 0 where
  pub lists : AreListsFields pinned.lists
  pub history : All (λ (pair : Pair). IsField pair.value) pinned.history
  pub rows : All (λ (row : UserRow). IsField row.word) pinned.rows

-- a key that types no other character
abbrev pub IsKeyField : Key → Type 0
IsKeyField (key.Char c) = IsFieldCharacter c
IsKeyField _ = ⊤

abbrev pub IsCommandField : Command → Type 0
IsCommandField (command.Key k) = IsKeyField k
IsCommandField _ = ⊤

-- a command, and the data that it takes
pub record IsStepField (command : Command × Option Pinned) : Type 0 where
  pub typed : IsCommandField command.0
  pub taken : IfSome command.1 ArePinnedFields

-- the texts of a line
pub record IsLineField (line : Line) : Type 0 where
  pub result : IsField line.result
  pub rest : All IsField line.rest
