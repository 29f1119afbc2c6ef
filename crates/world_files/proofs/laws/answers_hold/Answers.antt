use Rattle.world_files.proofs.AnswersHold.{AnswerHolds-answer}
use Rattle.world_files.proofs.laws.answers_hold.Goals as goal

pub returns : goal.returns
returns _ = AnswerHolds-answer
