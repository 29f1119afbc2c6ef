use Rattle.conversion_meaning.proofs.AnswerLemmas.{first_answer-one}
use Rattle.conversion_meaning.proofs.answers.first_answer_is_one.Goals as goal

pub returns : goal.returns
returns c = λ d rows l certificate sound of is. first_answer-one d rows l sound of certificate is
