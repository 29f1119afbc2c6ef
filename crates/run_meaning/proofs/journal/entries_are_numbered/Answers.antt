use Rattle.run_meaning.proofs.JournalLemmas.{entries_are_numbered, others_have_none}
use Rattle.run_meaning.proofs.journal.entries_are_numbered.Goals as goal

pub returns-clause-own : goal.returns-clause-own
returns-clause-own c = entries_are_numbered

pub returns-clause-others : goal.returns-clause-others
returns-clause-others c = others_have_none
