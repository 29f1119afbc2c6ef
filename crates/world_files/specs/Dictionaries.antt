-- The files of reloads: docs/FORMATS.md, "User dictionary" and "Order of work".
use Rattle.std.specs.Prelude.{ℕ, ◌-◌, List, [], ◌∷◌, ◌++◌, Result, Ok, Err, length}
use Rattle.mz_base.specs.Answers.{◌>>=◌}
use Rattle.mz_base.specs.declared.status.Refusal.{Refusal}
use Rattle.mz_base.specs.declared.status.Refusal.TheVariants as refusal
use Rattle.scenario.specs.declared.manifest.DictLine.{DictLine}
use Rattle.user_dict.specs.Rows.{Taken, taken_of}
use Rattle.user_dict.specs.declared.error.ImportError.{ImportError}
use Rattle.user_dict.specs.declared.error.ImportError.TheVariants as error
use Rattle.world_files.specs.Reading.{Files, file}
use Rattle.world_files.specs.Reloads.{Reload}
use Rattle.world_files.specs.declared.dictionaries.Reloads.{Reloads}
use Rattle.world_files.specs.declared.reload.DictFault.TheVariants as fault

-- What a file gives as a reload. A fault refuses the reload, and is no refusal of the command.
abbrev pub reload_in : ℕ → Result Taken ImportError → Result Reload Refusal
reload_in user (Ok taken) = Ok (record { user = user; gives = Ok taken })
reload_in user (Err (error.NotUtf8 line)) = Ok (record { user = user; gives = Err (fault.NotUtf8 line) })
reload_in user (Err (error.Limit line)) = Ok (record { user = user; gives = Err (fault.Limit line) })
reload_in user (Err error.NoMemory) = Err refusal.Memory

-- the reload of a line, whose file has these bytes
abbrev pub reload_of : DictLine → List ℕ → Result Reload Refusal
reload_of line bytes = reload_in line.user (taken_of bytes)

-- The reloads before, and then those of these lines, and how many bytes may still be read; or the first refusal.
abbrev pub reloads_after : Files → List Reload → ℕ → List DictLine → Result Reloads Refusal
reloads_after files before left [] = Ok (record { reloads = before; left = left })
reloads_after files before left (line ∷ lines) =
    file files left line.path >>= (λ bytes. reload_of line bytes >>= (λ reload. reloads_after files (before ++ reload ∷ []) (left - length bytes) lines))
