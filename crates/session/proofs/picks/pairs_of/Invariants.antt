use Rattle.std.proofs.Common.{◌≡◌, map, take}
use Rattle.session.specs.Kept.{pair_of, pick_of}
use Rattle.session.proofs.picks.pairs_of.Given as goal

abbrev pub invariant-loop-pick : goal.invariant-loop-pick
invariant-loop-pick l = l.pairs.items ≡ map (pair_of l.key) (map pick_of (take l.pick-index l.picks))
