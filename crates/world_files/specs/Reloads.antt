-- Reloads of users' dictionaries: docs/FORMATS.md, "User dictionary".
use Rattle.std.specs.Prelude.{ℕ, ◌==◌, List, filter, Result, Ok, Err, length}
use Rattle.mz_base.specs.declared.logs.DictNote.{DictNote}
use Rattle.mz_base.specs.declared.logs.DictNote.TheVariants as note
use Rattle.user_dict.specs.Rows.{Taken}
use Rattle.world_files.specs.declared.reload.DictFault.{DictFault}
use Rattle.world_files.specs.declared.reload.DictFault.TheVariants as fault

-- a reload of the dictionary of the user of this number: the rows kept and the lines skipped, or the fault
pub record Reload : Type 0 where
  pub user : ℕ
  pub gives : Result Taken DictFault

-- the reloads of the user of this number
abbrev pub reloads_of : ℕ → List Reload → List Reload
reloads_of number reloads = filter (λ (reload : Reload). reload.user == number) reloads

-- what is noted of a reload
abbrev pub note_in : Result Taken DictFault → DictNote
note_in (Ok taken) = note.Read (length taken.rows) (length taken.skipped)
note_in (Err (fault.NotUtf8 line)) = note.NotUtf8 line
note_in (Err (fault.Limit line)) = note.Limit line

abbrev pub note_of : Reload → DictNote
note_of reload = note_in reload.gives
