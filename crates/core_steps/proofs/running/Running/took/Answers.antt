use Rattle.std.proofs.Common.{Some}
use Rattle.run_meaning.specs.States.{Progress}
use Rattle.core_steps.proofs.PlaceLemmas.{moved, within-held}
use Rattle.core_steps.proofs.running.Running.took.Goals as goal

pub returns : goal.returns
returns g c =
    let clients = c.self.inside.clients.items in
    let within = within-held _ _ _ clients _ c.args.self.now c.args.place c.self.view_is c.requires in
    moved clients c.args.place c.index_mut.result.now c.took.new.self (λ (p : Progress). record p { taken = Some c.args.taken; seen = c.args.taken.version }) within c.index_mut.ensures.value c.took.ensures _ _ _ _ c.args.self.now c.self.view_is
