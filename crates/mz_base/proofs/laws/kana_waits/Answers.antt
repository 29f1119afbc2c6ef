use Rattle.mz_base.proofs.Turns.{kana-waits}
use Rattle.mz_base.proofs.laws.kana_waits.Goals as goal

pub returns : goal.returns
returns c = kana-waits
