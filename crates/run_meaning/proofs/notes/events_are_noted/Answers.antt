use Rattle.run_meaning.proofs.NoteLemmas.{noted-play}
use Rattle.run_meaning.proofs.OwnLemmas.{own_are_noted}
use Rattle.run_meaning.proofs.notes.events_are_noted.Goals as goal

pub returns-clause-all : goal.returns-clause-all
returns-clause-all c = noted-play

pub returns-clause-own : goal.returns-clause-own
returns-clause-own c = own_are_noted
