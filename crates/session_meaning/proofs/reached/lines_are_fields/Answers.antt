use Rattle.session_meaning.proofs.FieldSteps.{lines-are_fields}
use Rattle.session_meaning.proofs.reached.lines_are_fields.Goals as goal

pub returns : goal.returns
returns c = lines-are_fields
