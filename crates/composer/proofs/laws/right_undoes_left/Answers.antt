use Rattle.composer.proofs.Moves.{left-right}
use Rattle.composer.proofs.laws.right_undoes_left.Goals as goal

pub returns : goal.returns
returns c = left-right
