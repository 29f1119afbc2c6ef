-- The fields and numbers of a row of segments as the code has them.
use Rattle.mz_base.specs.declared.data.JoinRow.{JoinRow}
use Rattle.pos_table.specs.Joins.{JoinFields}
use Rattle.pos_table.specs.declared.joins.Columns.{Columns}
use Rattle.pos_table.specs.declared.joins.Bounds.{Bounds}

-- the fields that the columns point to
abbrev pub fields_view : Columns → JoinFields
fields_view columns =
    record { first_right = columns.first_right.now; last_right = columns.last_right.now; first_left = columns.first_left.now; last_left = columns.last_left.now }

abbrev pub bounds_view : Bounds → JoinRow
bounds_view bounds =
    record { first_right = bounds.first_right; last_right = bounds.last_right; first_left = bounds.first_left; last_left = bounds.last_left }
