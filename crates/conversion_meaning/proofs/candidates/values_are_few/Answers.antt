use Rattle.conversion_meaning.proofs.CandidateLemmas.{values-few}
use Rattle.conversion_meaning.proofs.candidates.values_are_few.Goals as goal

pub returns : goal.returns
returns c = values-few
