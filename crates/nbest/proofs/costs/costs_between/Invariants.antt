use Rattle.std.proofs.Common.{◌≡◌, ◌≤◌, ◌-◌, ◌++◌}
use Rattle.std.specs.List.{range_with_len}
use Rattle.conversion_meaning.specs.Lattices.{entry}
use Rattle.conversion_meaning.specs.Potentials.{is_in}
use Rattle.nbest.specs.Costs.{by_ordinal}
use Rattle.nbest.proofs.costs.costs_between.Given as goal

abbrev pub invariant-loop-o : goal.invariant-loop-o
invariant-loop-o l = record {
  few : l.next ≤ l.o;
  made : l.costs.items ++ by_ordinal (λ o. is_in l.span (entry l.entries o)) (range_with_len l.o (l.end - l.o)) l.potentials l.next ≡ by_ordinal (λ o. is_in l.span (entry l.entries o)) (range_with_len l.first (l.end - l.first)) l.potentials 0;
}
