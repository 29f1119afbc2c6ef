use Rattle.std.proofs.Common.{◌≡◌, ◌+◌, ◌++◌, drop}
use Rattle.std.specs.String.{string_bytes}
use Rattle.world_files.specs.Listings.{reloads_text}
use Rattle.world_files.proofs.listing.print_user.Given as goal

-- what is written, and then the reloads that are left, are all reloads
abbrev pub invariant-loop-index : goal.invariant-loop-index
invariant-loop-index g l =
    string_bytes l.out ++ reloads_text l.sets l.user.name (l.index + 1) (drop l.index l.reload-items) ≡ string_bytes l.initial.out ++ reloads_text l.sets l.user.name 1 l.reload-items
