use Rattle.conn_matrix.proofs.TableLemmas.{IsTable-read}
use Rattle.conn_matrix.proofs.laws.tables_are_sound.Goals as goal

pub returns : goal.returns
returns c = IsTable-read
