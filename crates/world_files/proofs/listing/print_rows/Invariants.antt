use Rattle.std.proofs.Common.{◌≡◌, ◌++◌, drop}
use Rattle.std.specs.List.{flat_map}
use Rattle.std.specs.String.{string_bytes}
use Rattle.world_files.specs.Listings.{row_text}
use Rattle.world_files.proofs.listing.print_rows.Given as goal

-- what is written, and then the rows that are left, are all rows
abbrev pub invariant-loop-row : goal.invariant-loop-row
invariant-loop-row g l =
    string_bytes l.out ++ flat_map (row_text l.set) (drop l.row-index l.rows) ≡ string_bytes l.initial.out ++ flat_map (row_text l.set) l.rows
