use Rattle.run_meaning.proofs.ClientLemmas.{own_is_done}
use Rattle.run_meaning.proofs.growth.own_deeds_are_done.Goals as goal

pub returns : goal.returns
returns c = own_is_done
