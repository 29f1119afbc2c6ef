use Rattle.std.proofs.Common.{◌≡◌, length, arith, rules, refl}
use Rattle.std.proofs.lemmas.Cmp.{nat_list_cmp_total}
use Rattle.std.proofs.lemmas.Fn.{always_returns_same}
use Rattle.std.proofs.lemmas.Iterator.{YieldsList-from_range, items_from_collect}
use Rattle.std.proofs.lemmas.List.{length-map}
use Rattle.std.proofs.lemmas.List.Sorted.{ranks_by}
use Rattle.std.proofs.lemmas.Result.{IfOk-at_ok}
use Rattle.std.specs.List.{range_with_len}
use Rattle.mz_base.specs.declared.user.UserRow.{UserRow}
use Rattle.dict_index.specs.Order.{comes_before, text_at}
use Rattle.user_dict.specs.Readings.{user_readings}
use Rattle.user_dict.proofs.by_reading.places_in_order.Goals as goal

pub returns : goal.returns
returns c =
    let texts = user_readings c.args.rows.now in
    let many = length-map c.args.rows.now (λ (row : UserRow). row.reading) in
    let all : c.in_ok-places.places.items ≡ range_with_len 0 (length texts) = IfOk-at_ok _ c.in_ok-places.was (items_from_collect _ c.collect.ensures.ran (YieldsList-from_range 0 (length c.args.rows.now) (length texts) refl (omega (arith, many, c.requires)))) in
    let order = ranks_by nat_list_cmp_total (text_at texts) in
    let sorted = c.in_ok-sort_by.ensures.sorted (comes_before texts) order (always_returns_same _ _ _ (λ x r f' k. search rules)) in
    let stable = c.in_ok-sort_by.ensures.stable (comes_before texts) order (always_returns_same _ _ _ (λ x r f' k. search rules)) in
    record { sorted = sorted; stable = rw all at stable }
