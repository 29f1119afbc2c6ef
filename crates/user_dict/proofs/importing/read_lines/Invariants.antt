use Rattle.std.proofs.Common.{◌≡◌, ◌+◌, ◌≤◌, length}
use Rattle.mz_base.specs.FileLines.{lines_left}
use Rattle.user_dict.specs.Kept.{IsReader, taken_by}
use Rattle.user_dict.specs.Rows.{take_lines, taken_of}
use Rattle.user_dict.proofs.importing.read_lines.Given as goal

-- the reader keeps what it should; there are no more lines than bytes and one; what is taken, and then the lines that are left, give
-- what all lines give
abbrev pub invariant-loop-line : goal.invariant-loop-line
invariant-loop-line l =
    IsReader l.reader × (l.number + length (lines_left l.line-iterator) ≤ length l.fn.bytes + 1) × (take_lines (taken_by l.reader) (l.number + 1) (lines_left l.line-iterator) ≡ taken_of l.fn.bytes)
