use Rattle.versions.proofs.Histories.{Begins-shorter}
use Rattle.versions.proofs.laws.the_shorter_begins_the_longer.Goals as goal

pub returns : goal.returns
returns g c = λ p q whole. Begins-shorter p q whole
