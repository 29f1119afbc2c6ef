use Rattle.std.proofs.Common.{◌+◌, drop, refl, rules}
use Rattle.std.specs.String.{string_bytes}
use Rattle.world_files.specs.Listings.{reload_text, reloads_text}
use Rattle.world_files.proofs.ListingSteps.{fails-next}
use Rattle.world_files.proofs.listing.print_user.Goals as goal

-- a reload that does not fit does not fit with those after it
pub returns-in_err-print_reload : goal.returns-in_err-print_reload
returns-in_err-print_reload g c =
    let sets = c.args.sets.now in
    let name = c.args.user.now.name in
    let i = c.loop-index.index in
    let reloads = c.as_slice-reload-items.result.now in
    let end = string_bytes c.print_reload.new.out in
    let fails = fails-next (reloads_text sets name (i + 1)) (string_bytes c.args.out.now) (reloads_text sets name 1 reloads) (string_bytes c.loop-index.out) (reload_text sets name (i + 1) c.reload-item.result) (reloads_text sets name (i + 1 + 1) (drop (i + 1) reloads)) end end reloads i c.reload-item.result c.in_err-print_reload.field-0.0 c.loop-index-test.true c.reload-item.is c.loop-index.invariant refl c.in_err-print_reload.ensures in
    search (rules, fails)
