use Rattle.mz_base.proofs.Waiting.{kana-more, pending-waits}
use Rattle.mz_base.proofs.laws.kana_grows.Goals as goal

pub returns : goal.returns
returns c = record {
  waits = λ rules text are_rules. pending-waits rules text are_rules.each;
  grows = λ rules text more are_rules. kana-more rules text more are_rules.each;
}
