use Rattle.pos_table.proofs.NodeLemmas.{AreNodes-read}
use Rattle.pos_table.proofs.laws.unknown_rows_are_nodes.Goals as goal

pub returns : goal.returns
returns c = AreNodes-read
