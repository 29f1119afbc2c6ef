use Rattle.core_steps.proofs.BoardLemmas.{full}
use Rattle.core_steps.proofs.board.Board.is_full.Goals as goal

pub returns : goal.returns
returns c jobs log is = full jobs log c.args.self.now is
