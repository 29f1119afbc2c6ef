use Rattle.pos_table.proofs.PosLemmas.{RiseByName-read, same-read}
use Rattle.pos_table.proofs.laws.pos_rows_rise.Goals as goal

pub returns : goal.returns
returns c = record { same = same-read; rise = RiseByName-read }
