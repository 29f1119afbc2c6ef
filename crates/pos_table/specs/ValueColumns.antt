-- The fields of a row of values as the code has them.
use Rattle.pos_table.specs.Values.{ValueFields}
use Rattle.pos_table.specs.declared.values.Columns.{Columns}

-- the fields that the columns point to
abbrev pub fields_view : Columns → ValueFields
fields_view columns = record { reading = columns.reading.now; value = columns.value.now }
