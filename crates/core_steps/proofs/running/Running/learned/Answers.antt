use Rattle.std.proofs.Common.{◌+◌, true}
use Rattle.run_meaning.specs.States.{Progress}
use Rattle.core_steps.proofs.PlaceLemmas.{moved, within-held}
use Rattle.core_steps.proofs.running.Running.learned.Goals as goal

pub returns : goal.returns
returns g c =
    let clients = c.self.inside.clients.items in
    let within = within-held _ _ _ clients _ c.args.self.now c.args.place c.self.view_is c.requires.within in
    moved clients c.args.place c.index_mut.result.now c.learned.new.self (λ (p : Progress). record p { learned = true; learns = p.learns + 1 }) within c.index_mut.ensures.value c.learned.ensures _ _ _ _ c.args.self.now c.self.view_is
