use Rattle.std.proofs.Common.{ap, ◌∙◌, slice_set}
use Rattle.std.proofs.lemmas.Result.{on_err_weaker}
use Rattle.core_steps.proofs.PutBack.{put_back}
use Rattle.core_steps.proofs.addition.note.Goals as goal

pub returns-clause-err : goal.returns-clause-err
returns-clause-err c =
    on_err_weaker c.note_in.result (λ same. ap (λ log. slice_set c.args.clients.now c.args.place log) same ∙ put_back c.args.clients.now c.args.place c.at_mut.result.now c.at_mut.ensures.item) c.note_in.ensures.err
