use Rattle.std.proofs.Common.{◌≡◌, ◌+◌, ◌≤◌, [], length}
use Rattle.mz_base.specs.FileLines.{lines_left}
use Rattle.mz_base.specs.Lines.{lines_of}
use Rattle.scenario.specs.Scripts.{script_after}
use Rattle.scenario.proofs.script.read_script.Given as goal

-- there are no more lines than bytes and one; the commands so far, and then the lines that are left, give what all lines give
abbrev pub invariant-loop-line : goal.invariant-loop-line
invariant-loop-line l =
    (l.number + length (lines_left l.line-iterator) ≤ length l.fn.bytes + 1) × (script_after l.commands.items (l.number + 1) (lines_left l.line-iterator) ≡ script_after [] 1 (lines_of l.fn.bytes))
