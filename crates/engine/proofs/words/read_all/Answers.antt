use Rattle.std.proofs.Common.{◌+◌, Vec, Global, Err, sym, ap, ◌∙◌}
use Rattle.std.proofs.lemmas.Result.{err_from_is_err_and}
use Rattle.mz_base.specs.declared.data.WordRow.{WordRow}
use Rattle.mz_base.specs.declared.fault.Role.TheVariants.{Dictionary}
use Rattle.dict_rows.specs.Rows.{word_rows}
use Rattle.engine.proofs.AnswerLemmas.{Gives-located}
use Rattle.mz_base.proofs.AnswerLemmas.{GivesBy-refused}
use Rattle.engine.specs.Answers.{set_fault}
use Rattle.engine.proofs.WordSteps.{words_after-read, words_after-fault, words_after-end}
use Rattle.engine.proofs.words.read_all.Goals as goal

pub returns-in_err-rows : goal.returns-in_err-rows
returns-in_err-rows c =
    let error = err_from_is_err_and c.from_residual.result c.from_residual.ensures.1 in
    let given = rw (← c.in_err-rows.ensures, c.as_slice.ensures, c.index-files-index.is) at (Gives-located (λ (rows : Vec WordRow Global). rows.items) Dictionary (c.loop-index.index + 1) c.read-read.result (word_rows c.args.n_ids c.loop-index.rows.items c.as_slice.result.now) c.read-read.ensures) in
    GivesBy-refused set_fault _ (λ (rows : Vec WordRow Global). rows.items) _ _ _ _ (error.1 ∙ ap Err error.2) given (λ fault found. rw (← c.loop-index.invariant) (words_after-fault _ _ _ _ _ fault c.loop-index-test.true found))

pub loop-index-preserved : goal.loop-index-preserved
loop-index-preserved c =
    let given = rw (← c.in_ok-rows.ensures, c.as_slice.ensures, c.index-files-index.is) at (Gives-located (λ (rows : Vec WordRow Global). rows.items) Dictionary (c.loop-index.index + 1) c.read-read.result (word_rows c.args.n_ids c.loop-index.rows.items c.as_slice.result.now) c.read-read.ensures) in
    sym (words_after-read _ _ _ _ _ _ c.loop-index-test.true given)
    ∙ c.loop-index.invariant

pub returns : goal.returns
returns c =
    sym c.loop-index.invariant
    ∙ words_after-end c.args.n_ids c.loop-index.rows.items c.args.files.now c.loop-index.index c.loop-index-test.false
