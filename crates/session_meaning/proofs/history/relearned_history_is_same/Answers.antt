use Rattle.session_meaning.proofs.HistoryLemmas.{relearned}
use Rattle.session_meaning.proofs.history.relearned_history_is_same.Goals as goal

pub returns : goal.returns
returns c = relearned
