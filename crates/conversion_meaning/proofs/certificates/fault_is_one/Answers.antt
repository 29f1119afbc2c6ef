use Rattle.conversion_meaning.proofs.VerdictLemmas.{one_fault}
use Rattle.conversion_meaning.proofs.certificates.fault_is_one.Goals as goal

pub returns : goal.returns
returns _ = one_fault
