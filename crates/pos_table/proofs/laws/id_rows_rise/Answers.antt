use Rattle.pos_table.proofs.IdLemmas.{id_rows-rise}
use Rattle.pos_table.proofs.laws.id_rows_rise.Goals as goal

pub returns : goal.returns
returns c = id_rows-rise
