use Rattle.session_meaning.proofs.KeyFields.{keys-are_fields}
use Rattle.session_meaning.proofs.reached.keys_are_fields.Goals as goal

pub returns : goal.returns
returns c = keys-are_fields
