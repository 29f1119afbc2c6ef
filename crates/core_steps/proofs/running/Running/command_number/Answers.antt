use Rattle.std.proofs.Common.{◌≡◌, ap, ◌∙◌, arith, length}
use Rattle.mz_base.specs.declared.logs.ClientLog.{ClientLog}
use Rattle.run_meaning.specs.States.{no_client_log}
use Rattle.std.specs.Prelude.{slice_index_or}
use Rattle.core_steps.proofs.KeptLemmas.{number-few}
use Rattle.core_steps.proofs.running.Running.command_number.Goals as goal

pub overflow_cast-result : goal.overflow_cast-result
overflow_cast-result g c =
    let low = number-few c.args.self.now c.requires.kept c.args.place c.requires.within c.requires.next in
    let same : length c.as_slice.result.now ≡ length (slice_index_or c.args.self.now.state.logs.clients c.args.place no_client_log).lines = ap length (c.as_slice.ensures) ∙ ap (λ (log : ClientLog). length log.lines) c.client_log.ensures in
    omega (arith, low, same)

pub overflow_add-result : goal.overflow_add-result
overflow_add-result g c =
    let low = number-few c.args.self.now c.requires.kept c.args.place c.requires.within c.requires.next in
    let same : length c.as_slice.result.now ≡ length (slice_index_or c.args.self.now.state.logs.clients c.args.place no_client_log).lines = ap length (c.as_slice.ensures) ∙ ap (λ (log : ClientLog). length log.lines) c.client_log.ensures in
    omega (arith, low, same)
