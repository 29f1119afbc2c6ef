use Rattle.pos_table.proofs.IdLemmas.{id_of-least, id_of-none, id_of-one}
use Rattle.pos_table.proofs.laws.id_of_is_least.Goals as goal

pub returns : goal.returns
returns c = record { one_of = id_of-one; least = id_of-least; none = id_of-none }
