use Rattle.run_meaning.proofs.VersionLemmas.{lines_have_version}
use Rattle.run_meaning.proofs.version.lines_have_the_version.Goals as goal

pub returns : goal.returns
returns c = lines_have_version
