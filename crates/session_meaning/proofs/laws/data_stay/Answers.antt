use Rattle.session_meaning.proofs.DataLemmas.{kept-step}
use Rattle.session_meaning.proofs.laws.data_stay.Goals as goal

pub returns : goal.returns
returns c = kept-step
