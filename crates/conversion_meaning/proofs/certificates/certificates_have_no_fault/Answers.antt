use Rattle.conversion_meaning.proofs.VerdictLemmas.{no_fault}
use Rattle.conversion_meaning.proofs.certificates.certificates_have_no_fault.Goals as goal

pub returns : goal.returns
returns _ = no_fault
