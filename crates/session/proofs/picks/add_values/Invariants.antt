use Rattle.std.proofs.Common.{◌≡◌, ◌++◌, drop, map}
use Rattle.session.specs.Kept.{pick_of, value_of}
use Rattle.session.proofs.picks.add_values.Given as goal

abbrev pub invariant-loop-pick : goal.invariant-loop-pick
invariant-loop-pick l =
    l.out.items ++ map value_of (map pick_of (drop l.pick-index l.picks)) ≡ l.initial.out.items ++ map value_of (map pick_of l.picks)
