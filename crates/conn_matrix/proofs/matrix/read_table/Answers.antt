use Rattle.std.proofs.Common.{Vec, Global, Err, ap, ◌∙◌, ℕ, ℤ}
use Rattle.std.proofs.lemmas.Result.{err_from_is_err_and}
use Rattle.mz_base.proofs.AnswerLemmas.{GivesBy-handed_on}
use Rattle.mz_base.specs.Answers.{file_fault}
use Rattle.conn_matrix.specs.Costs.{table_in}
use Rattle.conn_matrix.proofs.matrix.read_table.Goals as goal

pub returns-in_err-size : goal.returns-in_err-size
unfolding table_in
returns-in_err-size c =
    let error = err_from_is_err_and c.from_residual.result c.from_residual.ensures.1 in
    GivesBy-handed_on file_fault _ (λ (size : ℕ). size) _ _ _ _ (error.1 ∙ ap Err error.2) c.in_err-size.ensures.size

pub returns-in_err-costs : goal.returns-in_err-costs
unfolding table_in
returns-in_err-costs c =
    let error = err_from_is_err_and c.from_residual-in_err-costs.result c.from_residual-in_err-costs.ensures.1 in
    rw c.in_ok-size.ensures.size (GivesBy-handed_on file_fault _ (λ (costs : Vec ℤ Global). costs.items) _ _ _ _ (error.1 ∙ ap Err error.2) c.in_err-costs.ensures)

pub returns : goal.returns
unfolding table_in
returns c = rw (c.in_ok-size.ensures.size, c.in_ok-costs.ensures) c.squared.ensures
