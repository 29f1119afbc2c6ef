-- The fields of a row as the code has them.
use Rattle.user_dict.specs.Rows.{RowFields}
use Rattle.user_dict.specs.declared.columns.Columns.{Columns}

abbrev pub fields_view : Columns → RowFields
fields_view columns = record { reading = columns.reading.now; word = columns.word.now; pos = columns.pos.now }
