-- What a user's journal makes of the user's history and dictionary, and the data that are taken.
use Rattle.std.specs.Prelude.{ℕ, ◌==◌, Bool, true, false, List, [], if◌then◌else◌, max}
use Rattle.std.specs.List.{fold, list_any}
use Rattle.mz_base.specs.declared.lattice.Pair.{Pair}
use Rattle.mz_base.specs.declared.logs.UserEntry.{UserEntry}
use Rattle.mz_base.specs.declared.logs.UserEntry.TheVariants as entry
use Rattle.mz_base.specs.declared.user.UserRow.{UserRow}
use Rattle.session_meaning.specs.History.{learn}
use Rattle.session_meaning.specs.Stages.{Pinned}
use Rattle.run_meaning.specs.Numbers.{at_number}
use Rattle.run_meaning.specs.Worlds.{Reload, Read, NotUtf8, World, lists_of, reloads_of}

-- ---- The history: what all learns of the journal, in order, leave

abbrev pub with_entry : List Pair → UserEntry → List Pair
with_entry history (entry.Learn client seq pairs) = learn history pairs
with_entry history _ = history

abbrev pub history_of : List UserEntry → List Pair
history_of journal = fold with_entry [] journal

-- ---- The dictionary: the rows of the highest reload of the journal that reads

abbrev pub reads : Reload → Bool
reads (Read rows skipped) = true
reads _ = false

abbrev pub rows_in : Reload → List UserRow
rows_in (Read rows skipped) = rows
rows_in _ = []

-- a reload that does not read
abbrev pub no_reload : Reload
no_reload = NotUtf8 0

abbrev pub reload_at : List Reload → ℕ → Reload
reload_at reloads reload = at_number no_reload reloads reload

abbrev pub higher : List Reload → ℕ → UserEntry → ℕ
higher reloads before (entry.Dict reload) = if reads (reload_at reloads reload) then max before reload else before
higher reloads before _ = before

-- the highest reload of the journal that reads; 0 where none does
abbrev pub reload_in_force : List Reload → List UserEntry → ℕ
reload_in_force reloads journal = fold (higher reloads) 0 journal

abbrev pub rows_of : List Reload → List UserEntry → List UserRow
rows_of reloads journal = rows_in (reload_at reloads (reload_in_force reloads journal))

-- ---- What is taken

-- the set of a job, and the user's history and dictionary after a journal
abbrev pub data_of : World → ℕ → ℕ → List UserEntry → Pinned
data_of world user job journal =
    record { version = job; lists = lists_of world job; history = history_of journal; rows = rows_of (reloads_of world user) journal }

-- ---- What a journal has

abbrev pub enters : ℕ → UserEntry → Bool
enters reload (entry.Dict other) = other == reload
enters reload _ = false

-- the reload came
abbrev pub is_entered : List UserEntry → ℕ → Bool
is_entered journal reload = list_any (enters reload) journal
