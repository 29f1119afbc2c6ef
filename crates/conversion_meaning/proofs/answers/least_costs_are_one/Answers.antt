use Rattle.conversion_meaning.proofs.AnswerLemmas.{least_costs-one}
use Rattle.conversion_meaning.proofs.answers.least_costs_are_one.Goals as goal

pub returns : goal.returns
returns c = λ d l span potentials well is are. least_costs-one d l span well is potentials are
