use Rattle.std.proofs.Common.{◌≡◌, ◌++◌, drop}
use Rattle.world_files.specs.Reloads.{reloads_of}
use Rattle.world_files.proofs.users.reloads_of.Given as goal

-- the user's reloads so far, and then those that are left, are all the user's
abbrev pub invariant-loop-reload : goal.invariant-loop-reload
invariant-loop-reload l =
    l.own.items ++ reloads_of l.number (drop l.reload-index l.reloads) ≡ reloads_of l.number l.reloads
