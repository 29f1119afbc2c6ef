use Rattle.conversion_meaning.proofs.LeastCosts.{IsCertificate-from_least}
use Rattle.conversion_meaning.proofs.certificates.least_costs_certify.Goals as goal

pub returns : goal.returns
returns _ = IsCertificate-from_least
