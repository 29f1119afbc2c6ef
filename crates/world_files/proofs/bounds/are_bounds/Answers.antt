use Rattle.std.proofs.Common.{◌==◌, is_some, refl, ap}
use Rattle.std.specs.List.{slice_split}
use Rattle.world_files.proofs.BoundLemmas.{rising-bounds}
use Rattle.world_files.proofs.bounds.are_bounds.Goals as goal

pub loop-left-init : goal.loop-left-init
loop-left-init c =
    (refl, ap is_some (rising-bounds c.args.key_length 0 (slice_split (λ b. b == 44) c.args.text.now)))
