use Rattle.world_files.proofs.BoundLemmas.{added-none}
use Rattle.world_files.proofs.bounds.numbers_in.Goals as goal

pub loop-left-init : goal.loop-left-init
loop-left-init c = added-none _ _ c.new-bounds.ensures.items
