use Rattle.std.proofs.Common.{◌≡◌, ◌++◌, drop, map}
use Rattle.mz_base.specs.declared.lattice.Pair.{Pair}
use Rattle.session.proofs.lines.add_suggested.Given as goal

abbrev pub invariant-loop-pair : goal.invariant-loop-pair
invariant-loop-pair l =
    l.rest.items ++ map (λ (pair : Pair). pair.value) (drop l.pair-index l.pairs) ≡ l.initial.rest.items ++ map (λ (pair : Pair). pair.value) l.pairs
