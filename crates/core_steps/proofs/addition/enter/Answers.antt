use Rattle.std.proofs.Common.{ap, ◌∙◌, slice_set}
use Rattle.std.proofs.lemmas.Result.{on_err_weaker}
use Rattle.core_steps.proofs.PutBack.{put_back}
use Rattle.core_steps.proofs.addition.enter.Goals as goal

pub returns-clause-err : goal.returns-clause-err
returns-clause-err c =
    let log = c.at_mut.result.now in
    on_err_weaker c.push.result (λ same. ap (λ entries. slice_set c.args.users.now c.args.place (record log { entries = entries })) same ∙ put_back c.args.users.now c.args.place log c.at_mut.ensures.item) c.push.ensures.err
