use Rattle.std.proofs.Common.{◌≡◌, ◌++◌, drop, map}
use Rattle.run_meaning.specs.Worlds.{UserPlan}
use Rattle.mozc_cli.proofs.replay.user_names.Given as goal

-- the names so far, and then those of the users that are left, are those of all
abbrev pub invariant-loop-user : goal.invariant-loop-user
invariant-loop-user l =
    l.names.items ++ map (λ (user : UserPlan). user.name) (drop l.user-index l.users) ≡ map (λ (user : UserPlan). user.name) l.users
