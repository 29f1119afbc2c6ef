use Rattle.run_meaning.proofs.VersionLemmas.{data_stay}
use Rattle.run_meaning.proofs.version.data_stay_without_a_take.Goals as goal

pub returns : goal.returns
returns c = data_stay
