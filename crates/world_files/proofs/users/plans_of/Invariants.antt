use Rattle.std.proofs.Common.{◌≡◌, ◌+◌, ◌++◌, drop}
use Rattle.world_files.specs.Users.{plans_from}
use Rattle.world_files.proofs.users.plans_of.Given as goal

-- the users so far, and then those of the names that are left, are those of all names
abbrev pub invariant-loop-index : goal.invariant-loop-index
invariant-loop-index l =
    l.plans.items ++ plans_from l.reloads (l.index + 1) (drop l.index l.names) ≡ plans_from l.reloads 1 l.names
