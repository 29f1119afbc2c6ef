use Rattle.std.proofs.Common.{◌+◌, Err, drop, refl, rules, subst}
use Rattle.report.specs.Printed.{Adds}
use Rattle.std.specs.String.{string_bytes}
use Rattle.world_files.specs.Listings.{user_text, users_text}
use Rattle.world_files.specs.Users.{user_of}
use Rattle.world_files.specs.declared.users.User.{User}
use Rattle.world_files.proofs.ListingSteps.{fails-next}
use Rattle.world_files.proofs.listing.print_users.Goals as goal

-- a user's dictionaries that do not fit do not fit with those of the users after it
pub returns-in_err-print_user : goal.returns-in_err-print_user
returns-in_err-print_user g c =
    let sets = c.args.sets.now in
    let reloads = c.args.reloads.now in
    let i = c.loop-index.index in
    let names = c.args.names.now in
    let end = string_bytes c.print_user.new.out in
    let made = subst (λ (user : User). Adds {A = Unit {0}} (string_bytes c.loop-index.out) (user_text sets user) (Err c.in_err-print_user.field-0.0) end) c.in_ok-user.ensures c.in_err-print_user.ensures in
    let fails = fails-next (users_text sets reloads (i + 1)) (string_bytes c.args.out.now) (users_text sets reloads 1 names) (string_bytes c.loop-index.out) (user_text sets (user_of reloads (i + 1) c.index-names-index.result)) (users_text sets reloads (i + 1 + 1) (drop (i + 1) names)) end end names i c.index-names-index.result c.in_err-print_user.field-0.0 c.loop-index-test.true c.index-names-index.is c.loop-index.invariant refl made in
    search (rules, fails)
