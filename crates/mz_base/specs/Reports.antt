-- The words of a report: docs/FORMATS.md, "Report".
use Rattle.std.specs.Prelude.{ℕ, List, codes}
use Rattle.mz_base.specs.declared.event.Outcome.{Outcome}
use Rattle.mz_base.specs.declared.event.Outcome.TheVariants.{Published, Refused, Skipped}
use Rattle.mz_base.specs.declared.report.Mode.{Mode}
use Rattle.mz_base.specs.declared.report.Mode.TheVariants.{P, C, V}
use Rattle.mz_base.specs.declared.report.Word.{Word}
use Rattle.mz_base.specs.declared.report.Word.TheVariants.{Done, Pass, Full, Met, Differs, Awaited, NotYet}

abbrev pub word_text : Word → List ℕ
word_text Done = codes "done"
word_text Pass = codes "pass"
word_text Full = codes "full"
word_text Met = codes "met"
word_text Differs = codes "differs"
word_text Awaited = codes "awaited"
word_text NotYet = codes "notyet"

abbrev pub mode_text : Mode → List ℕ
mode_text P = codes "P"
mode_text C = codes "C"
mode_text V = codes "V"

abbrev pub outcome_text : Outcome → List ℕ
outcome_text Published = codes "published"
outcome_text Refused = codes "refused"
outcome_text Skipped = codes "skipped"
