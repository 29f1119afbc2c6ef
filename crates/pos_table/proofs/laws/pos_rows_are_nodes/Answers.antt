use Rattle.pos_table.proofs.PosLemmas.{ArePosNodes-read}
use Rattle.pos_table.proofs.laws.pos_rows_are_nodes.Goals as goal

pub returns : goal.returns
returns c = ArePosNodes-read
