use Rattle.field_laws.proofs.DictFields.{dictionaries-are_fields}
use Rattle.field_laws.proofs.laws.dictionaries_are_fields.Goals as goal

pub returns : goal.returns
returns c = dictionaries-are_fields
