use Rattle.run_meaning.proofs.JournalLemmas.{commits_are_learned, learns_are_entered}
use Rattle.run_meaning.proofs.journal.commits_are_learned.Goals as goal

pub returns-clause-learns : goal.returns-clause-learns
returns-clause-learns c = learns_are_entered

pub returns-clause-steps : goal.returns-clause-steps
returns-clause-steps c = commits_are_learned
