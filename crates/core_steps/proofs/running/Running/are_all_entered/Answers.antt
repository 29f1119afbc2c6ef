use Rattle.std.proofs.Common.{List, ap, ◌∙◌}
use Rattle.std.specs.List.{list_all}
use Rattle.core_steps.specs.Kepts.{Kept}
use Rattle.core_steps.specs.Standings.{has_all}
use Rattle.core_steps.specs.declared.standing.Standing.{Standing}
use Rattle.core_steps.proofs.CompleteLemmas.{all-entered}
use Rattle.core_steps.proofs.running.Running.are_all_entered.Goals as goal

pub returns : goal.returns
returns g c =
    c.have_all.ensures
    ∙ (ap (λ (users : List Standing). list_all has_all users) (c.as_slice.ensures.value ∙ ap (λ (k : Kept). k.users) c.self.view_is)
    ∙ all-entered c.args.self.now c.requires)
