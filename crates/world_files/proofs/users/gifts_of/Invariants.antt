use Rattle.std.proofs.Common.{◌≡◌, ◌++◌, drop, map}
use Rattle.core_steps.specs.Plans.{reload_of}
use Rattle.world_files.specs.Reloads.{reloads_of}
use Rattle.world_files.specs.Users.{gift_of}
use Rattle.world_files.proofs.users.gifts_of.Given as goal

-- what the user's reloads so far gave, and then those that are left, is what all the user's gave
abbrev pub invariant-loop-reload : goal.invariant-loop-reload
invariant-loop-reload l =
    map reload_of l.gifts.items ++ map gift_of (reloads_of l.number (drop l.reload-index l.reloads)) ≡ map gift_of (reloads_of l.number l.reloads)
