-- Users with the reloads of their dictionaries, by number from 1.
use Rattle.std.specs.Prelude.{ℕ, ◌+◌, List, [], ◌∷◌, map, length, Result, Ok, Err}
use Rattle.run_meaning.specs.Worlds.{Limit, NotUtf8, Read, UserPlan}
use Rattle.run_meaning.specs.Worlds.{Reload as Gift}
use Rattle.user_dict.specs.Rows.{Taken}
use Rattle.world_files.specs.Reloads.{Reload, reloads_of}
use Rattle.world_files.specs.declared.reload.DictFault.{DictFault}
use Rattle.world_files.specs.declared.reload.DictFault.TheVariants as fault
use Rattle.world_files.specs.declared.users.User.{User}

-- the user of this number and name
abbrev pub user_of : List Reload → ℕ → List ℕ → User
user_of reloads number name = record { name = name; reloads = reloads_of number reloads }

-- ---- Users of a run

-- what a run is given of a reload
abbrev pub gift_in : Result Taken DictFault → Gift
gift_in (Ok taken) = Read taken.rows (length taken.skipped)
gift_in (Err (fault.NotUtf8 line)) = NotUtf8 line
gift_in (Err (fault.Limit line)) = Limit line

abbrev pub gift_of : Reload → Gift
gift_of reload = gift_in reload.gives

-- the user of this number and name
abbrev pub plan_of : List Reload → ℕ → List ℕ → UserPlan
plan_of reloads number name = record { name = name; reloads = map gift_of (reloads_of number reloads) }

-- the users of these names, numbered from here
abbrev pub plans_from : List Reload → ℕ → List (List ℕ) → List UserPlan
plans_from reloads number [] = []
plans_from reloads number (name ∷ names) = plan_of reloads number name ∷ plans_from reloads (number + 1) names
