-- What the program does with its words, and what it tells at its end: docs/FORMATS.md, "Statuses".
use Rattle.std.specs.Prelude.{ℕ, List, [], ◌∷◌, Option, Some, None, if◌then◌else◌, codes, bytes_eq}
use Rattle.mz_base.specs.Statuses.{status_text}
use Rattle.mz_base.specs.declared.status.Status.{Status}
use Rattle.mz_base.specs.declared.status.Status.TheVariants as status
use Rattle.mozc_cli.specs.declared.program.Told.{Told}
use Rattle.mozc_cli.specs.declared.program.Told.TheVariants as told

-- the text that a word asks for
abbrev pub told_by : List ℕ → Option Told
told_by word =
    if bytes_eq word (codes "--help") then Some told.Help else
    if bytes_eq word (codes "--version") then Some told.Version else
    None

-- a text is told where its word is the only one; all other words are for a command
abbrev pub told_for : List (List ℕ) → Option Told
told_for (word ∷ []) = told_by word
told_for _ = None

-- each text as it is written, with its last line feed
abbrev pub text_of : Told → List ℕ
text_of told.Help = codes "sockflint run MANIFEST\nRuns the clients of the manifest and writes the report on standard output.\nsockflint replay MANIFEST FILE\nRuns them by the schedule in a file, or in a report.\nsockflint check MANIFEST\nReads all data of the manifest and lists its data sets.\nsockflint convert MANIFEST SET KEY [BOUNDS]\nWrites the best path of a key in a data set, with its certificate.\nsockflint verify MANIFEST SET KEY FILE\nTests the certificate in a file.\n"
text_of told.Version = codes "sockflint 0.1.0\n"

-- what is told on standard error: the status's text, unless all went well
abbrev pub error_text : Status → Option (List ℕ)
error_text status.Ok = None
error_text other = Some (status_text other)
