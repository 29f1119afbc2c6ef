use Rattle.conversion_meaning.proofs.CandidateLemmas.{AllPairs-values}
use Rattle.conversion_meaning.proofs.candidates.values_are_once.Goals as goal

pub returns : goal.returns
returns c = AllPairs-values
