use Rattle.std.proofs.Common.{rules}
use Rattle.mz_base.specs.Lines.{lines_of}
use Rattle.mz_base.proofs.lines.cut_lines.Goals as goal

pub returns-then-is_empty : goal.returns-then-is_empty
unfolding lines_of
returns-then-is_empty c = search rules

pub returns : goal.returns
unfolding lines_of
returns c = search rules
