use Rattle.mz_base.specs.Lines.{lines_of}
use Rattle.dict_rows.proofs.RowLaws.{words_after}
use Rattle.dict_rows.proofs.laws.rows_are_words.Goals as goal

pub returns : goal.returns
returns c = λ ids before bytes rows read words. words_after ids before 1 (lines_of bytes) rows words read
