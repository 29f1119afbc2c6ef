use Rattle.std.proofs.Common.{sym, ap, ◌∙◌}
use Rattle.std.specs.Prelude.{◌&&◌}
use Rattle.std.proofs.lemmas.Bool.{and_parts}
use Rattle.mz_base.specs.declared.event.Event.TheVariants as event
use Rattle.run_meaning.specs.Deeds.{Awaits}
use Rattle.run_meaning.specs.Jobs.{is_published}
use Rattle.core_steps.specs.Helds.{may_await}
use Rattle.core_steps.specs.Kepts.{progress_at}
use Rattle.run_meaning.proofs.EventKinds.{awaiting}
use Rattle.core_steps.proofs.DeedLemmas.{illegal-both, illegal-place, in-no-case, may-await}
use Rattle.core_steps.proofs.running.Running.waiter.Goals as goal

pub returns-in_err-place-clause-illegal : goal.returns-in_err-place-clause-illegal
returns-in_err-place-clause-illegal g c =
    let kept = c.args.self.now in
    in-no-case c.from_residual.result (illegal-place kept.world kept.state c.args.client (event.Await c.args.client c.args.job) (is_published kept.state.logs.jobs c.args.job) (Awaits c.args.job) (awaiting c.args.job) c.in_err-place.ensures.nowhere)

pub returns-then-can_await-clause-may : goal.returns-then-can_await-clause-may
returns-then-can_await-clause-may g c =
    let kept = c.args.self.now in
    let place = c.in_ok-place.place in
    let there = c.in_ok-place.ensures.there in
    let both = and_parts (is_published kept.state.logs.jobs c.args.job) (may_await (progress_at kept place) c.args.job) (sym c.can_await.ensures ∙ c.if-can_await.true) in
    record { stands = there; may_come = may-await kept c.args.client place there.number c.args.job ∙ both.1 }

pub returns-else-can_await-clause-illegal : goal.returns-else-can_await-clause-illegal
returns-else-can_await-clause-illegal g c =
    let kept = c.args.self.now in
    let place = c.in_ok-place.place in
    let there = c.in_ok-place.ensures.there in
    let asked = may-await kept c.args.client place there.number c.args.job in
    illegal-both kept.world kept.state c.args.client (event.Await c.args.client c.args.job) (is_published kept.state.logs.jobs c.args.job) (Awaits c.args.job) (awaiting c.args.job) (ap (λ b. (is_published kept.state.logs.jobs c.args.job) && b) asked ∙ (sym c.can_await.ensures ∙ c.if-can_await.false))

pub returns-then-can_await-clause-published : goal.returns-then-can_await-clause-published
returns-then-can_await-clause-published g c =
    let kept = c.args.self.now in
    (and_parts (is_published kept.state.logs.jobs c.args.job) (may_await (progress_at kept c.in_ok-place.place) c.args.job) (sym c.can_await.ensures ∙ c.if-can_await.true)).0
