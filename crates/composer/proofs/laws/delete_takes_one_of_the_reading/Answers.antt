use Rattle.composer.proofs.Moves.{deleted-reads}
use Rattle.composer.proofs.laws.delete_takes_one_of_the_reading.Goals as goal

pub returns : goal.returns
returns c = deleted-reads
