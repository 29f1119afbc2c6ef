-- The fields and numbers of a row of unknown words as the code has them.
use Rattle.mz_base.specs.declared.data.UnknownRow.{UnknownRow}
use Rattle.pos_table.specs.Classes.{ClassFields}
use Rattle.pos_table.specs.declared.unknown.Columns.{Columns}
use Rattle.pos_table.specs.declared.unknown.Node.{Node}

-- the fields that the columns point to
abbrev pub fields_view : Columns → ClassFields
fields_view columns = record { class = columns.class.now; id = columns.id.now; cost = columns.cost.now }

abbrev pub node_view : Node → UnknownRow
node_view node = record { id = node.id; cost = node.cost }
