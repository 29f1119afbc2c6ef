use Rattle.std.proofs.Common.{◌≡◌, ◌++◌, drop, map}
use Rattle.std.specs.List.{flat_map}
use Rattle.session.specs.Kept.{pick_of, value_of}
use Rattle.session.proofs.picks.joined.Given as goal

abbrev pub invariant-loop-pick : goal.invariant-loop-pick
invariant-loop-pick l =
    l.letters.items ++ flat_map (λ value. value) (map value_of (map pick_of (drop l.pick-index l.picks))) ≡ flat_map (λ value. value) (map value_of (map pick_of l.picks))
