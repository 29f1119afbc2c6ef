use Rattle.std.proofs.Common.{List, sym, ap, ◌∙◌}
use Rattle.std.specs.List.{list_all}
use Rattle.std.proofs.lemmas.List.Folds.{list_all-map}
use Rattle.run_meaning.specs.Plays.{has_ended}
use Rattle.core_steps.specs.Helds.{Held}
use Rattle.core_steps.specs.Kepts.{Kept}
use Rattle.core_steps.proofs.running.Running.have_all_ended.Goals as goal

pub returns : goal.returns
returns g c =
    c.all_ended.ensures
    ∙ (ap (λ (clients : List Held). list_all (λ (client : Held). has_ended client.progress) clients) c.as_slice.ensures.value
    ∙ (sym (list_all-map has_ended (λ (client : Held). client.progress) c.self.inside.clients.items)
    ∙ ap (λ (k : Kept). list_all has_ended k.state.clients) c.self.view_is))
