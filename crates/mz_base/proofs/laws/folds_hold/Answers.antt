use Rattle.mz_base.proofs.FoldLemmas.{katakana-again, hiragana-again, full_width-again, half_width-again}
use Rattle.mz_base.proofs.laws.folds_hold.Goals as goal

pub returns : goal.returns
returns c = record {
  katakana = katakana-again;
  hiragana = hiragana-again;
  full_width = full_width-again;
  half_width = half_width-again;
}
