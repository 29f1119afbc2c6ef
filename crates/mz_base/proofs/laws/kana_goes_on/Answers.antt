use Rattle.mz_base.proofs.Turns.{kana-goes_on}
use Rattle.mz_base.proofs.laws.kana_goes_on.Goals as goal

pub returns : goal.returns
returns c = λ rules text are_rules going. kana-goes_on rules are_rules.each text going
