-- What the stages and outcomes that a session keeps mean.
use Rattle.std.specs.Arc.{arc_value}
use Rattle.session_meaning.specs.Outcomes.{Outcome, Committed, Converted, Filled, Passed, Went}
use Rattle.session_meaning.specs.Stages.{Stage, C, P, V}
use Rattle.session.specs.declared.stage.Outcome.{Outcome as Come}
use Rattle.session.specs.declared.stage.Outcome.TheVariants as come
use Rattle.session.specs.declared.stage.Stage.{Stage as Held}
use Rattle.session.specs.declared.stage.Stage.TheVariants as held

abbrev pub stage_of : {D U : Type 0} → Held D U → Stage
stage_of held.Precomposition = P
stage_of (held.Composition composition) = C (arc_value composition)
stage_of (held.Conversion choosing) = V choosing.composition choosing.choice

abbrev pub outcome_of : {D U : Type 0} → Come D U → Outcome
outcome_of come.Passed = Passed
outcome_of come.Filled = Filled
outcome_of (come.Went stage) = Went (stage_of stage)
outcome_of (come.Converted choosing) = Converted choosing.composition choosing.choice
outcome_of (come.Committed text stage) = Committed text (stage_of stage)
