use Rattle.pos_table.proofs.JoinLemmas.{joins-sound}
use Rattle.pos_table.proofs.laws.join_rows_are_sound.Goals as goal

pub returns : goal.returns
returns c = joins-sound
