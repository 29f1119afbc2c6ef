use Rattle.conversion_meaning.proofs.AnswerLemmas.{AreLeastCosts-least_costs}
use Rattle.conversion_meaning.proofs.answers.least_costs_are_least.Goals as goal

pub returns : goal.returns
returns c = AreLeastCosts-least_costs
