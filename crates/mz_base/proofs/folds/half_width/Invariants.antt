use Rattle.std.proofs.Common.{◌≡◌, ◌++◌, drop}
use Rattle.std.specs.List.{flat_map}
use Rattle.mz_base.specs.Folds.{half_of, half_width}
use Rattle.mz_base.proofs.folds.half_width.Given as goal

abbrev pub invariant-loop-c : goal.invariant-loop-c
invariant-loop-c l =
    l.folded.items ++ flat_map half_of (drop l.c-index l.text) ≡ half_width l.text
