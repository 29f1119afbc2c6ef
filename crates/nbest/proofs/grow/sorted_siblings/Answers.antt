use Rattle.std.proofs.Common.{List, subst}
use Rattle.std.specs.Prelude.{◌*◌}
use Rattle.std.specs.List.Sorted.{IsPermutation}
use Rattle.std.proofs.lemmas.List.Sorted.{All-permutation}
use Rattle.conversion_meaning.specs.Bounds.{IsWithin}
use Rattle.viterbi.specs.Table.{most_reached}
use Rattle.nbest.specs.declared.tail.Sibling.{Sibling}
use Rattle.nbest.proofs.grow.sorted_siblings.Goals as goal

pub returns : goal.returns
returns g c = record {
  are = subst (λ (ss : List Sibling). IsPermutation ss c.sort_unstable.new.self.items) c.in_ok-siblings.ensures.all c.sort_unstable.ensures.permutation;
  order = c.sort_unstable.ensures.sorted;
  small = All-permutation (λ (s : Sibling). IsWithin (2 * most_reached) s.added) _ _ c.sort_unstable.ensures.permutation c.in_ok-siblings.ensures.small;
}
