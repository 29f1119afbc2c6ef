use Rattle.std.proofs.Common.{true}
use Rattle.run_meaning.specs.States.{Progress}
use Rattle.core_steps.proofs.PlaceLemmas.{moved, within-held}
use Rattle.core_steps.proofs.running.Running.ended.Goals as goal

pub returns : goal.returns
returns g c =
    let clients = c.self.inside.clients.items in
    let within = within-held _ _ _ clients _ c.args.self.now c.args.place c.self.view_is c.requires in
    moved clients c.args.place c.index_mut.result.now c.ended.new.self (λ (p : Progress). record p { ended = true }) within c.index_mut.ensures.value c.ended.ensures _ _ _ _ c.args.self.now c.self.view_is
