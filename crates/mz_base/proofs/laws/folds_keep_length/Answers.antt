use Rattle.std.proofs.lemmas.List.{length-map}
use Rattle.mz_base.specs.Folds.{katakana_of, hiragana_of, full_width_of}
use Rattle.mz_base.proofs.laws.folds_keep_length.Goals as goal

pub returns : goal.returns
returns c = record {
  katakana = λ text. length-map text katakana_of;
  hiragana = λ text. length-map text hiragana_of;
  full_width = λ text. length-map text full_width_of;
}
