use Rattle.std.proofs.Common.{◌∙◌, slice_index_or}
use Rattle.run_meaning.specs.States.{no_client_log}
use Rattle.core_steps.proofs.PutBack.{noted_there, taken_back}
use Rattle.core_steps.proofs.addition.take_back.Goals as goal

pub returns : goal.returns
returns c before own line has there are =
    let logs = c.args.clients.now in
    let place = c.args.place in
    let noted = c.at_mut.ensures.item no_client_log ∙ noted_there before logs place own line there are in
    let again = c.take_back_in.ensures (slice_index_or before place no_client_log) own line has noted in
    taken_back before logs place own line c.take_back_in.new.log are again
