use Rattle.run_meaning.proofs.PairLemmas.{entries_are_its_own}
use Rattle.run_meaning.proofs.journal.entries_are_its_own.Goals as goal

pub returns : goal.returns
returns c = entries_are_its_own
