-- The fields of a row as the code lends them.
use Rattle.romaji_table.specs.Rows.{RowFields}
use Rattle.romaji_table.specs.declared.row.Columns.{Columns}

-- the fields that they point to
abbrev pub row_of_columns : Columns → RowFields
row_of_columns columns =
    record { input = columns.input.now; output = columns.output.now; pending = columns.pending.now }
