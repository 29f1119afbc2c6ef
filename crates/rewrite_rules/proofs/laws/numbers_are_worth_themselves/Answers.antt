use Rattle.rewrite_rules.proofs.WorthLemmas.{spelled-worth}
use Rattle.rewrite_rules.proofs.laws.numbers_are_worth_themselves.Goals as goal

pub returns : goal.returns
returns c = spelled-worth
