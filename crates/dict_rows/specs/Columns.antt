-- The fields and numbers of a row as the code has them.
use Rattle.dict_rows.specs.Rows.{RowFields, RowNumbers}
use Rattle.dict_rows.specs.declared.columns.Columns.{Columns}
use Rattle.dict_rows.specs.declared.columns.Numbers.{Numbers}

-- the fields that the columns point to
abbrev pub row_of_columns : Columns → RowFields
row_of_columns columns =
    record { reading = columns.reading.now; lid = columns.lid.now; rid = columns.rid.now; cost = columns.cost.now; value = columns.value.now }

abbrev pub numbers_view : Numbers → RowNumbers
numbers_view numbers = record { lid = numbers.lid; rid = numbers.rid; cost = numbers.cost }
