use Rattle.mz_base.proofs.SortLemmas.{in_order-IsPermutation, in_order-IsSortedBy, in_order-IsStableBy}
use Rattle.mz_base.proofs.laws.order_holds.Goals as goal

pub returns : goal.returns
returns g c = record {
  same = in_order-IsPermutation;
  sorted = λ before items order. in_order-IsSortedBy before order items;
  stable = λ before items order. in_order-IsStableBy before order items;
}
