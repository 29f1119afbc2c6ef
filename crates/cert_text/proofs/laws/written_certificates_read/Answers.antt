use Rattle.cert_text.proofs.ReadAgain.{certificate_text-read}
use Rattle.cert_text.proofs.laws.written_certificates_read.Goals as goal

pub returns : goal.returns
returns c = certificate_text-read
