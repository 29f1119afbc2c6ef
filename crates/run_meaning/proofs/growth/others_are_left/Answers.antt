use Rattle.run_meaning.proofs.GrowthLemmas.{others_are_left}
use Rattle.run_meaning.proofs.growth.others_are_left.Goals as goal

pub returns : goal.returns
returns c = others_are_left
