use Rattle.std.proofs.Common.{◌≡◌, ◌++◌, drop}
use Rattle.std.specs.List.{flat_map}
use Rattle.std.specs.String.{string_bytes}
use Rattle.world_files.specs.Listings.{skipped_text}
use Rattle.world_files.proofs.listing.print_skipped.Given as goal

-- what is written, and then the lines that are left, are all lines
abbrev pub invariant-loop-line : goal.invariant-loop-line
invariant-loop-line l =
    string_bytes l.out ++ flat_map skipped_text (drop l.line-index l.lines) ≡ string_bytes l.initial.out ++ flat_map skipped_text l.lines
