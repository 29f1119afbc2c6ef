use Rattle.scenario.specs.Manifests.{nothing_told, manifest_of}
use Rattle.scenario.proofs.NameLaws.{manifest_after-IsNamed, nothing_told-IsNamed}
use Rattle.scenario.proofs.SoundLaws.{manifest_after-IsSound, nothing_told-IsKept}
use Rattle.scenario.proofs.laws.manifests_are_sound.Goals as goal

pub returns : goal.returns
unfolding manifest_of
returns c = λ lines manifest is.
    manifest_after-IsSound nothing_told 1 lines manifest is nothing_told-IsKept (manifest_after-IsNamed nothing_told 1 lines manifest is nothing_told-IsNamed)
