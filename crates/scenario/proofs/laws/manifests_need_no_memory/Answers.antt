use Rattle.scenario.specs.Manifests.{nothing_told, manifest_of}
use Rattle.scenario.proofs.MemoryLaws.{manifest_after-IsTold}
use Rattle.scenario.proofs.laws.manifests_need_no_memory.Goals as goal

pub returns : goal.returns
unfolding manifest_of
returns c = λ lines. manifest_after-IsTold nothing_told 1 lines
