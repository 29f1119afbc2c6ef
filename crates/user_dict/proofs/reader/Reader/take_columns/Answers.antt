use Rattle.std.proofs.Common.{subst}
use Rattle.user_dict.specs.Answers.{Gives}
use Rattle.user_dict.specs.Kept.{taken_by}
use Rattle.user_dict.specs.Rows.{take_row}
use Rattle.user_dict.proofs.reader.Reader.take_columns.Goals as goal

pub returns-clause-given : goal.returns-clause-given
returns-clause-given c =
    subst (λ row. Gives (λ _. taken_by c.take_row.new.self) c.take_row.result (take_row (taken_by c.args.self.now) row)) (c.in_ok-words.ensures c.args.number) c.take_row.ensures.given
