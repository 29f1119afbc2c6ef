-- What the answer of a script's reader is, against the answer that the definition gives.
use Rattle.std.specs.Prelude.{Option, Some, None, Result}
use Rattle.mz_base.specs.Answers.{GivesBy}
use Rattle.scenario.specs.declared.script.ScriptError.{ScriptError}
use Rattle.scenario.specs.declared.script.ScriptError.TheVariants.{Bad, TooLarge, NoMemory}

-- the line that is bad or passes the limit
abbrev pub line_fault : ScriptError → Option ScriptError
line_fault (Bad line) = Some (Bad line)
line_fault (TooLarge limit line) = Some (TooLarge limit line)
line_fault NoMemory = None

-- the answer, its value seen by view, is the definition's, unless memory ran out
abbrev pub GivesScript : {A B : Type 0} → (A → B) → Result A ScriptError → Result B ScriptError → Type 0
GivesScript view = GivesBy line_fault view
