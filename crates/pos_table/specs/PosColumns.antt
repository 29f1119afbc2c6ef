-- The fields of a row of parts of speech as the code has them.
use Rattle.pos_table.specs.UserPos.{PosFields}
use Rattle.pos_table.specs.declared.user_pos.Columns.{Columns}

-- the fields that the columns point to
abbrev pub fields_view : Columns → PosFields
fields_view columns = record { name = columns.name.now; feature = columns.feature.now; cost = columns.cost.now }
