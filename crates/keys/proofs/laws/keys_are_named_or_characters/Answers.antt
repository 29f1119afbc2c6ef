use Rattle.keys.proofs.KeyLaws.{key_of-is}
use Rattle.keys.proofs.laws.keys_are_named_or_characters.Goals as goal

pub returns : goal.returns
returns c = key_of-is
