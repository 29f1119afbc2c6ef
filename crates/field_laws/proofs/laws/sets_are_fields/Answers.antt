use Rattle.field_laws.proofs.SetFields.{sets-are_fields}
use Rattle.field_laws.proofs.laws.sets_are_fields.Goals as goal

pub returns : goal.returns
returns c = sets-are_fields
