use Rattle.std.proofs.Common.{◌≡◌, ◌+◌, ◌≤◌, length}
use Rattle.mz_base.specs.FileLines.{lines_left}
use Rattle.mz_base.specs.Lines.{lines_of}
use Rattle.mz_base.specs.Rows.{rows_after}
use Rattle.mz_base.proofs.rows.read_rows.Given as goal

-- the reader reads as before and knows the rows; there are no more lines than bytes and one;
-- the rows so far, and then the lines that are left, give what all lines give
abbrev pub invariant-loop-line : goal.invariant-loop-line
invariant-loop-line g l =
    let reader = g.R.RowReader in
    (reader.row_of l.reader ≡ reader.row_of l.initial.reader) × reader.knows l.reader l.rows.items × (l.number + length (lines_left l.line-iterator) ≤ length l.fn.bytes + 1) × (rows_after (reader.row_of l.initial.reader) l.rows.items (l.number + 1) (lines_left l.line-iterator) ≡ rows_after (reader.row_of l.initial.reader) l.initial.rows.items 1 (lines_of l.fn.bytes))
