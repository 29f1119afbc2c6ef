use Rattle.std.proofs.Common.{refl, ◌∙◌}
use Rattle.user_dict.specs.Kept.{row_of_words}
use Rattle.user_dict.specs.Rows.{is_same}
use Rattle.user_dict.proofs.RowLemmas.{any-lookup}
use Rattle.user_dict.proofs.reader.Reader.has.Goals as goal

pub returns : goal.returns
returns c =
    c.contains_key.ensures ∙ any-lookup _ (is_same (row_of_words c.args.words.now c.args.line)) (λ words line. refl) c.args.self.now.rows.entries
