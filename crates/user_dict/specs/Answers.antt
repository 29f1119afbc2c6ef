-- What an import answers, against what the file gives.
use Rattle.std.specs.Prelude.{Option, Some, None, Result}
use Rattle.mz_base.specs.Answers.{GivesBy}
use Rattle.user_dict.specs.declared.error.ImportError.{ImportError}
use Rattle.user_dict.specs.declared.error.ImportError.TheVariants.{NotUtf8, Limit, NoMemory}

abbrev pub import_fault : ImportError → Option ImportError
import_fault (NotUtf8 line) = Some (NotUtf8 line)
import_fault (Limit line) = Some (Limit line)
import_fault NoMemory = None

-- the answer, its value seen by view, is the definition's, unless memory ran out
abbrev pub Gives : {A B : Type 0} → (A → B) → Result A ImportError → Result B ImportError → Type 0
Gives view = GivesBy import_fault view
