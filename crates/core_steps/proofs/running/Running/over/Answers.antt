use Rattle.run_meaning.specs.States.{Progress}
use Rattle.core_steps.specs.Helds.{over_with}
use Rattle.core_steps.proofs.PlaceLemmas.{moved, within-held}
use Rattle.core_steps.proofs.running.Running.over.Goals as goal

pub returns : goal.returns
returns g c =
    let clients = c.self.inside.clients.items in
    let within = within-held _ _ _ clients _ c.args.self.now c.args.place c.self.view_is c.requires in
    moved clients c.args.place c.index_mut.result.now c.over.new.self (λ (p : Progress). over_with p c.args.session) within c.index_mut.ensures.value c.over.ensures _ _ _ _ c.args.self.now c.self.view_is
