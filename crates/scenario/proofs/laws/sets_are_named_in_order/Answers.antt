use Rattle.scenario.specs.Manifests.{manifest_of, nothing_told}
use Rattle.scenario.proofs.SetNames.{sets-named}
use Rattle.scenario.proofs.laws.sets_are_named_in_order.Goals as goal

pub returns : goal.returns
unfolding manifest_of
returns c = λ lines manifest is. sets-named nothing_told 1 lines manifest is
