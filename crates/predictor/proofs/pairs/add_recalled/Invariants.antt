use Rattle.std.proofs.Common.{◌≡◌, drop}
use Rattle.std.specs.List.{fold}
use Rattle.predictor.specs.Pairs.{with_recalled}
use Rattle.predictor.proofs.pairs.add_recalled.Given as goal

-- the pairs so far, and then those that are left, give what all give
abbrev pub invariant-loop-pair : goal.invariant-loop-pair
invariant-loop-pair l =
    fold (with_recalled l.base) l.pairs.items (drop l.pair-index l.history) ≡ fold (with_recalled l.base) l.initial.pairs.items l.history
