use Rattle.run_meaning.proofs.AnswerLemmas.{alone_is_solo, played_is_solo}
use Rattle.run_meaning.proofs.answers.clients_are_solo.Goals as goal

pub returns-clause-alone : goal.returns-clause-alone
returns-clause-alone c = alone_is_solo

pub returns-clause-played : goal.returns-clause-played
returns-clause-played c = played_is_solo
