use Rattle.conversion_meaning.proofs.CandidateLemmas.{AllPairs-costs}
use Rattle.conversion_meaning.proofs.candidates.value_costs_rise.Goals as goal

pub returns : goal.returns
returns c = AllPairs-costs
