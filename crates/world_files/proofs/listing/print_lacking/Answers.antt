use Rattle.std.proofs.Common.{◌+◌, drop, refl, rules}
use Rattle.std.specs.List.{flat_map}
use Rattle.std.specs.String.{string_bytes}
use Rattle.world_files.specs.Listings.{rows_text}
use Rattle.world_files.proofs.ListingSteps.{fails-next}
use Rattle.world_files.proofs.listing.print_lacking.Goals as goal

-- a set's rows that do not fit do not fit with those of the sets after it
pub returns-in_err-print_rows : goal.returns-in_err-print_rows
returns-in_err-print_rows g c =
    let text = rows_text c.args.rows.now in
    let sets = c.args.sets.now in
    let end = string_bytes c.print_rows.new.out in
    let fails = fails-next (flat_map text) (string_bytes c.args.out.now) (flat_map text sets) (string_bytes c.loop-set.out) (text c.set-item.result) (flat_map text (drop (c.loop-set.set-index + 1) sets)) end end sets c.loop-set.set-index c.set-item.result c.in_err-print_rows.field-0.0 c.loop-set-test.true c.set-item.is c.loop-set.invariant refl c.in_err-print_rows.ensures in
    search (rules, fails)
