-- What the plans of a run are in a world.
use Rattle.std.specs.Prelude.{ℕ, ◌^◌, ◌&&◌, Bool, length, nat_le, nat_lt, Result, Ok, Err}
use Rattle.std.specs.Arc.{arc_value}
use Rattle.std.specs.declared.sync.Arc.{Arc}
use Rattle.user_dict.specs.Dictionaries.{taken_in}
use Rattle.user_dict.specs.declared.dictionary.UserDict.{UserDict}
use Rattle.user_dict.specs.declared.error.ImportError.{ImportError}
use Rattle.user_dict.specs.declared.error.ImportError.TheVariants as import
use Rattle.run_meaning.specs.Users.{no_reload}
use Rattle.run_meaning.specs.Worlds.{ClientPlan, Reload, Read, NotUtf8, Limit}

-- What a file gave: its rows and the number of skipped lines, or the line that refuses it. Want of memory is none of a file's
-- faults, and gives nothing.
abbrev pub reload_of : {A : Type 0} → Result (Arc UserDict A) ImportError → Reload
reload_of (Ok dict) = Read (taken_in (arc_value dict)).rows (length (taken_in (arc_value dict)).skipped)
reload_of (Err (import.NotUtf8 line)) = NotUtf8 line
reload_of (Err (import.Limit line)) = Limit line
reload_of (Err import.NoMemory) = no_reload

-- the user of a client is there, of so many, and the client's commands can be counted
abbrev pub is_sound : ℕ → ClientPlan → Bool
is_sound users client =
    nat_lt 0 client.user && (nat_le client.user users && nat_lt (length client.commands) (2 ^ 32))
