use Rattle.field_laws.proofs.ScriptFields.{scripts-are_fields}
use Rattle.field_laws.proofs.laws.scripts_are_fields.Goals as goal

pub returns : goal.returns
returns c = scripts-are_fields
