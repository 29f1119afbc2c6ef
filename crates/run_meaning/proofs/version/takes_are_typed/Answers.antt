use Rattle.run_meaning.proofs.VersionLemmas.{takes_are_typed}
use Rattle.run_meaning.proofs.version.takes_are_typed.Goals as goal

pub returns : goal.returns
returns c = takes_are_typed
