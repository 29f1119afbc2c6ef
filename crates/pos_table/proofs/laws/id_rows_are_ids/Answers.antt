use Rattle.pos_table.proofs.PosLemmas.{AreIds-read}
use Rattle.pos_table.proofs.laws.id_rows_are_ids.Goals as goal

pub returns : goal.returns
returns c = AreIds-read
