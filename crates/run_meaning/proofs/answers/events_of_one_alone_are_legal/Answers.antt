use Rattle.run_meaning.proofs.LegalLemmas.{alone_is_legal}
use Rattle.run_meaning.proofs.answers.events_of_one_alone_are_legal.Goals as goal

pub returns : goal.returns
returns c = alone_is_legal
