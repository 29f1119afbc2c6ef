use Rattle.std.proofs.Common.{◌≡◌, ◌+◌, ◌++◌, drop}
use Rattle.std.specs.String.{string_bytes}
use Rattle.world_files.specs.Listings.{users_text}
use Rattle.world_files.proofs.listing.print_users.Given as goal

-- what is written, and then the users that are left, are all users
abbrev pub invariant-loop-index : goal.invariant-loop-index
invariant-loop-index g l =
    string_bytes l.out ++ users_text l.sets l.reloads (l.index + 1) (drop l.index l.names) ≡ string_bytes l.initial.out ++ users_text l.sets l.reloads 1 l.names
