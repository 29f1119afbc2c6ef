use Rattle.std.proofs.Common.{◌≡◌, ◌++◌, drop, filter, map}
use Rattle.std.specs.Prelude.{◌*◌, All}
use Rattle.conversion_meaning.specs.Bounds.{IsWithin}
use Rattle.viterbi.specs.Table.{most_reached}
use Rattle.nbest.specs.Searches.{sibling}
use Rattle.nbest.specs.declared.tail.Sibling.{Sibling}
use Rattle.nbest.proofs.EndLemmas.{begins_in}
use Rattle.nbest.proofs.grow.siblings.Given as goal

abbrev pub invariant-loop-ordinal : goal.invariant-loop-ordinal
invariant-loop-ordinal g l = record {
  all : l.siblings.items ++ map (sibling (g.D.DataSet.lists l.set) l.entries l.costs l.join.lid) (filter (begins_in l.entries l.span) (drop l.ordinal-index l.ending)) ≡ map (sibling (g.D.DataSet.lists l.set) l.entries l.costs l.join.lid) (filter (begins_in l.entries l.span) l.ending);
  small : All (λ (s : Sibling). IsWithin (2 * most_reached) s.added) l.siblings.items;
}
