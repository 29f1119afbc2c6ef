-- The lines that are left of a file that is gone over.
use Rattle.std.specs.Prelude.{ℕ, List, map}
use Rattle.std.specs.Str.Lines.{strip_carriage_return}
use Rattle.mz_base.specs.Lines.{parts_left}
use Rattle.mz_base.specs.declared.lines.FileLines.{FileLines}

-- the lines that are still to come
abbrev pub lines_left : FileLines → List (List ℕ)
lines_left lines = map strip_carriage_return (parts_left lines.left)
