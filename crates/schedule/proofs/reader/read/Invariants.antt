use Rattle.std.proofs.Common.{◌≡◌, ◌+◌, ◌≤◌, length}
use Rattle.mz_base.specs.FileLines.{lines_left}
use Rattle.mz_base.specs.Lines.{lines_of}
use Rattle.schedule.specs.Drafts.{whole}
use Rattle.schedule.specs.Names.{who_in}
use Rattle.schedule.specs.Readings.{part_in}
use Rattle.schedule.proofs.reader.read.Given as goal

-- there are no more lines than bytes and one; what was read, and then the lines that are left, is the part of all lines
abbrev pub invariant-loop-line : goal.invariant-loop-line
invariant-loop-line l =
    (length (lines_of l.fn.bytes) ≤ length l.fn.bytes + 1) × (l.number + length (lines_left l.line-iterator) ≡ length (lines_of l.fn.bytes)) × (whole (who_in l.directory) l.draft (l.number + 1) (lines_left l.line-iterator) ≡ part_in (who_in l.directory) (lines_of l.fn.bytes))
