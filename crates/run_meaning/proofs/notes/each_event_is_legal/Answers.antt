use Rattle.run_meaning.proofs.NoteLemmas.{each_is_legal}
use Rattle.run_meaning.proofs.notes.each_event_is_legal.Goals as goal

pub returns : goal.returns
returns c = each_is_legal
