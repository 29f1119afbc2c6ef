use Rattle.run_meaning.proofs.JournalLemmas.{users_are_there}
use Rattle.run_meaning.proofs.journal.users_are_there.Goals as goal

pub returns : goal.returns
returns c = users_are_there
