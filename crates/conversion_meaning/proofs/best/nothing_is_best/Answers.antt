use Rattle.conversion_meaning.proofs.Recurrence.{IsBest-nothing}
use Rattle.conversion_meaning.proofs.best.nothing_is_best.Goals as goal

pub returns : goal.returns
returns _ = IsBest-nothing
