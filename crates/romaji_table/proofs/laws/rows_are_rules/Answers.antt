use Rattle.romaji_table.proofs.RuleLaws.{AreRules-read}
use Rattle.romaji_table.proofs.laws.rows_are_rules.Goals as goal

pub returns : goal.returns
returns c = AreRules-read
