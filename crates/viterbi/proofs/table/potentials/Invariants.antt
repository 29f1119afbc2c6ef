use Rattle.std.proofs.Common.{◌≡◌, ◌-◌, ◌++◌, map, length}
use Rattle.std.specs.List.{filter, range_with_len}
use Rattle.conversion_meaning.specs.Lattices.{entry}
use Rattle.conversion_meaning.specs.Potentials.{is_in}
use Rattle.viterbi.specs.Table.{reached}
use Rattle.viterbi.proofs.table.potentials.Given as goal

-- the costs so far, and those of the rest, are all
abbrev pub invariant-loop-o : goal.invariant-loop-o
invariant-loop-o l =
    l.costs.items ++ map (λ o. (reached l.table o).cost) (filter (λ o. is_in l.span (entry l.entries o)) (range_with_len l.o (l.end - l.o))) ≡ map (λ o. (reached l.table o).cost) (filter (λ o. is_in l.span (entry l.entries o)) (range_with_len 0 (length l.entries)))
