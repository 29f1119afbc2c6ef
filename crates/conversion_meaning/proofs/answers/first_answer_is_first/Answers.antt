use Rattle.conversion_meaning.proofs.AnswerLemmas.{IsFirstAnswer-first_answer}
use Rattle.conversion_meaning.proofs.answers.first_answer_is_first.Goals as goal

pub returns : goal.returns
returns c = IsFirstAnswer-first_answer
