use Rattle.std.proofs.Common.{◌≡◌, ◌∙◌, ap, subst}
use Rattle.std.specs.Prelude.{OnOk}
use Rattle.std.specs.List.{fold}
use Rattle.run_meaning.specs.Orders.{all_jobs, reload_came, reloads_left, run, then_closed}
use Rattle.core_steps.specs.Cores.{Ran, now}
use Rattle.core_steps.specs.Kepts.{ran}
use Rattle.core_steps.proofs.running.Running.run.Goals as goal

pub returns-clause-ok : goal.returns-clause-ok
unfolding run
returns-clause-ok g c =
    let after_reloads = ap (λ (r : Ran). now r (then_closed r.world r.state)) c.in_ok-all_reloads.ensures.ok in
    let after_jobs = ap (λ (r : Ran). now r (then_closed r.world (fold (reload_came r.world) r.state (reloads_left r.world)))) c.in_ok-all_jobs.ensures.ok in
    let after_clients = ap (λ (r : Ran). now r (then_closed r.world (fold (reload_came r.world) (all_jobs r.world r.state) (reloads_left r.world)))) c.in_ok-all_served.ensures.ok in
    subst (λ (r : Ran). OnOk c.then_closed.result (ran c.then_closed.new.self ≡ r)) (after_reloads ∙ after_jobs ∙ after_clients) c.then_closed.ensures.ok
