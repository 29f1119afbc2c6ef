use Rattle.std.proofs.Common.{◌≡◌, ◌+◌, ◌∙◌, None, ap, sym, subst, arith, rules, drop}
use Rattle.std.specs.Prelude.{OnOk}
use Rattle.run_meaning.specs.Deeds.{awaited_by, need_of}
use Rattle.run_meaning.specs.States.{Progress, progress_of}
use Rattle.run_meaning.specs.Worlds.{ClientPlan, client_plan}
use Rattle.core_steps.specs.Cores.{now}
use Rattle.core_steps.specs.Kepts.{ran}
use Rattle.core_steps.proofs.KeptLemmas.{clients-there}
use Rattle.core_steps.proofs.OrderLemmas.{drop-some, plan-at, progress-at, steps-first}
use Rattle.core_steps.proofs.running.Running.obeyed.Goals as goal

pub client-requires : goal.client-requires
client-requires g c =
    let count = clients-there c.args.self.now c.requires.kept in
    omega (arith, count, c.requires.within)

pub client-requires-in-None : goal.client-requires-in-None
client-requires-in-None g c =
    let count = clients-there c.args.self.now c.requires.kept in
    omega (arith, count, c.requires.within)

pub returns-in-None-clause-ok : goal.returns-in-None-clause-ok
returns-in-None-clause-ok g c =
    let before = ran c.args.self.now in
    let client = c.args.place + 1 in
    let index = c.args.index in
    let commands = (client_plan before.world client).commands in
    let held = c.client-in-None.result.now in
    let plan = plan-at before.world c.args.place in
    let none_held : awaited_by (drop index c.client.result.now.plan.commands) ≡ None = search rules in
    let none : awaited_by (drop index commands) ≡ None = subst (λ (p : ClientPlan). awaited_by (drop index p.commands) ≡ None) (c.client.ensures.plan ∙ sym plan) none_held in
    let need = c.need_at-need.ensures ∙ ap (λ (p : Progress). need_of p.session (drop index held.plan.commands)) (c.client-in-None.ensures.progress ∙ sym (progress-at before.state c.args.place)) ∙ ap (λ (p : ClientPlan). need_of (progress_of before.state client).session (drop index p.commands)) (c.client-in-None.ensures.plan ∙ sym plan) in
    subst (λ t. OnOk c.stepped.result (ran c.stepped.new.self ≡ now before t)) (steps-first before.world client before.state c.need_at-need.result (drop index commands) (drop-some index commands c.requires.there) none need) c.stepped.ensures.ok
