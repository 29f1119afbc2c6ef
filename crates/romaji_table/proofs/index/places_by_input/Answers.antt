use Rattle.std.proofs.Common.{◌≡◌, length, arith, rules, refl}
use Rattle.std.proofs.lemmas.Cmp.{nat_list_cmp_total}
use Rattle.std.proofs.lemmas.Fn.{always_returns_same}
use Rattle.std.proofs.lemmas.Iterator.{YieldsList-from_range, items_from_collect}
use Rattle.std.proofs.lemmas.List.Sorted.{ranks_by}
use Rattle.std.proofs.lemmas.Result.{IfOk-at_ok}
use Rattle.std.specs.List.{range_with_len}
use Rattle.romaji_table.specs.Index.{comes_before, input_at}
use Rattle.romaji_table.proofs.InputOrder.{IsIndex-from_sort}
use Rattle.romaji_table.proofs.index.places_by_input.Goals as goal

pub returns : goal.returns
returns c =
    let rules_now = c.args.rules.now in
    let all : c.in_ok-places.places.items ≡ range_with_len 0 (length rules_now) = IfOk-at_ok _ c.in_ok-places.was (items_from_collect _ c.collect.ensures.ran (YieldsList-from_range 0 (length rules_now) (length rules_now) refl (omega arith))) in
    let sorted = c.in_ok-sort_by.ensures.sorted (comes_before rules_now) (ranks_by nat_list_cmp_total (input_at rules_now)) (always_returns_same _ _ _ (λ x r f' k. search rules)) in
    IsIndex-from_sort rules_now c.sort_by.new.self.items (rw all at c.in_ok-sort_by.ensures.permutation) sorted
