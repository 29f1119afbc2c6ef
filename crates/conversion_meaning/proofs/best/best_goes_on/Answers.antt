use Rattle.conversion_meaning.proofs.Recurrence.{IsBest-push}
use Rattle.conversion_meaning.proofs.best.best_goes_on.Goals as goal

pub returns : goal.returns
returns _ = IsBest-push
