use Rattle.std.proofs.Common.{rules}
use Rattle.std.proofs.lemmas.Cmp.{nat_list_cmp_total}
use Rattle.std.proofs.lemmas.Fn.{always_returns_same}
use Rattle.std.proofs.lemmas.List.Sorted.{ranks_by}
use Rattle.mz_base.specs.ByName.{name_before}
use Rattle.mz_base.proofs.SortLemmas.{sorted-in_order}
use Rattle.mz_base.proofs.repeats.sort_by_name.Goals as goal

pub returns : goal.returns
returns g c =
    let before = name_before g.T.Named.name in
    let order = ranks_by nat_list_cmp_total g.T.Named.name in
    let sorted = c.in_ok-sort_by.ensures.sorted before order (always_returns_same _ _ _ (λ x r f' k. search rules)) in
    let stable = c.in_ok-sort_by.ensures.stable before order (always_returns_same _ _ _ (λ x r f' k. search rules)) in
    sorted-in_order before order c.args.rows.now.items c.sort_by.new.self.items sorted stable
