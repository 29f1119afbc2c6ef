use Rattle.mz_base.proofs.FoldLemmas.{hiragana-katakana, katakana-hiragana}
use Rattle.mz_base.proofs.laws.kana_folds_undo.Goals as goal

pub returns : goal.returns
returns c = record {
  hiragana = hiragana-katakana;
  katakana = katakana-hiragana;
}
