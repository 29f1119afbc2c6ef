use Rattle.conn_matrix.proofs.TableLemmas.{StandOnTheirLines-read}
use Rattle.conn_matrix.proofs.laws.costs_stand_on_their_lines.Goals as goal

pub returns : goal.returns
returns c = StandOnTheirLines-read
