use Rattle.session_meaning.proofs.FieldSteps.{learned-are_fields}
use Rattle.session_meaning.proofs.reached.learned_values_are_fields.Goals as goal

pub returns : goal.returns
returns c = learned-are_fields
