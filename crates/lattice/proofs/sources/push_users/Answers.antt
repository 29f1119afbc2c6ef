use Rattle.std.proofs.Common.{◌<◌, ◌++◌, ◌-◌, ◌∙◌, sym, ap, append-nil, arith}
use Rattle.std.proofs.lemmas.Bool.Decides.{nat_tests}
use Rattle.mz_base.specs.Users.{longest_reading}
use Rattle.lattice.proofs.PlaceLemmas.{user_row_is_inside}
use Rattle.lattice.proofs.UserLemmas.{user_entries-longer}
use Rattle.lattice.proofs.sources.push_users.Goals as goal

pub returns-then-is_longer : goal.returns-then-is_longer
returns-then-is_longer g c =
    let rows = g.U.UserWords.rows c.args.user.now in
    let out = c.args.out.now.items in
    let longer = sym c.is_longer.ensures ∙ c.if-is_longer.true in
    let above : longest_reading rows < c.args.end - c.args.begin = grind (arith, nat_tests, longer) in
    sym (ap (λ xs. out ++ xs) (user_entries-longer (g.D.DataSet.lists c.args.set.now) rows c.args.key.now c.args.begin c.args.end c.requires.forward c.requires.inside above) ∙ append-nil out)

pub user_entry-requires : goal.user_entry-requires
user_entry-requires g c =
    user_row_is_inside _ _ _ c.loop-place.place-index 0 c.rows_of-place-items.ensures c.loop-place-test.true
