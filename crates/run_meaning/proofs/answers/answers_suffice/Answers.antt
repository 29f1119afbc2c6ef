use Rattle.run_meaning.proofs.AnswerLemmas.{answers_suffice, complete_answers_suffice}
use Rattle.run_meaning.proofs.answers.answers_suffice.Goals as goal

pub returns-clause-carried : goal.returns-clause-carried
returns-clause-carried c = answers_suffice

pub returns-clause-complete : goal.returns-clause-complete
returns-clause-complete c = complete_answers_suffice
