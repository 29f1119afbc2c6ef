-- What a user keeps beside its journal.
use Rattle.std.specs.Prelude.{◌≡◌, ◌≤◌, ℕ, Bool, false, List, [], Option, Some, None, All, IfSome, length, map, take}
use Rattle.std.specs.Arc.{arc_value}
use Rattle.std.specs.List.{list_all}
use Rattle.mz_base.specs.declared.lattice.Pair.{Pair}
use Rattle.mz_base.specs.declared.logs.UserEntry.{UserEntry}
use Rattle.run_meaning.specs.Numbers.{at_number}
use Rattle.run_meaning.specs.Users.{higher, history_of, is_entered, reload_in_force, with_entry}
use Rattle.run_meaning.specs.Worlds.{UserPlan}
use Rattle.user_dict.specs.Dictionaries.{taken_in}
use Rattle.core_steps.specs.declared.standing.Standing.{Standing}

abbrev pub history_in : Option (List Pair) → List Pair
history_in None = []
history_in (Some history) = history

-- what is shared is the history
abbrev pub IsShared : Standing → Type 0
IsShared s = IfSome s.shared (λ shared. (arc_value shared).items ≡ history_in s.history)

-- what is kept is what the first entries of the journal make, so many of them; and which reloads all of it has
pub record IsCaught (journal : List UserEntry) (s : Standing) : Type 0 where
  pub few : s.upto ≤ length journal
  pub history : history_in s.history ≡ history_of (take s.upto journal)
  pub shared : IsShared s
  pub in_force : s.in_force ≡ reload_in_force s.plan.reloads (take s.upto journal)
  pub nothing : (taken_in (arc_value s.nothing)).rows ≡ []
  pub reloads : length s.entered.items ≡ length s.plan.reloads
  pub entered : (reload : ℕ) → at_number false s.entered.items reload ≡ is_entered journal reload

-- all reloads of the user came
abbrev pub has_all : Standing → Bool
has_all s = list_all (λ entered. entered) s.entered.items

-- nothing was entered yet
pub record IsFirst (given : UserPlan) (s : Standing) : Type 0 where
  pub plan : s.plan ≡ given
  pub caught : IsCaught [] s

-- users with these plans, and empty journals
pub record AreFirst (given : List UserPlan) (users : List Standing) : Type 0 where
  pub plans : given ≡ map (λ (user : Standing). user.plan) users
  pub caught : All (IsCaught []) users

-- an entry came in, and is not counted yet
pub record Enters (before : Standing) (entry : UserEntry) (after : Standing) : Type 0 where
  pub upto : after.upto ≡ before.upto
  pub history : history_in after.history ≡ with_entry (history_in before.history) entry
  pub shared : IsShared before → IsShared after
  pub in_force : after.in_force ≡ higher before.plan.reloads before.in_force entry
  pub plan : after.plan ≡ before.plan
  pub nothing : after.nothing ≡ before.nothing
  pub entered : after.entered ≡ before.entered

-- nothing of the journal is in it any more
pub record Empties (before after : Standing) : Type 0 where
  pub upto : after.upto ≡ 0
  pub history : after.history ≡ None
  pub shared : after.shared ≡ None
  pub in_force : after.in_force ≡ 0
  pub plan : after.plan ≡ before.plan
  pub nothing : after.nothing ≡ before.nothing
  pub entered : after.entered ≡ before.entered
