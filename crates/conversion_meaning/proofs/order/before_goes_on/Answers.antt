use Rattle.conversion_meaning.proofs.Ordered.{IsBefore-trans}
use Rattle.conversion_meaning.proofs.order.before_goes_on.Goals as goal

pub returns : goal.returns
returns c = IsBefore-trans
