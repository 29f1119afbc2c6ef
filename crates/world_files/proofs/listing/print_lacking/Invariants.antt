use Rattle.std.proofs.Common.{◌≡◌, ◌++◌, drop}
use Rattle.std.specs.List.{flat_map}
use Rattle.std.specs.String.{string_bytes}
use Rattle.world_files.specs.Listings.{rows_text}
use Rattle.world_files.proofs.listing.print_lacking.Given as goal

-- what is written, and then the sets that are left, are all sets
abbrev pub invariant-loop-set : goal.invariant-loop-set
invariant-loop-set g l =
    string_bytes l.out ++ flat_map (rows_text l.rows) (drop l.set-index l.sets) ≡ string_bytes l.initial.out ++ flat_map (rows_text l.rows) l.sets
