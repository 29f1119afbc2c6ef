use Rattle.std.proofs.Common.{sym, ap, ◌∙◌, true}
use Rattle.mz_base.specs.declared.event.Event.TheVariants as event
use Rattle.run_meaning.specs.Deeds.{Steps}
use Rattle.core_steps.specs.Helds.{may_step}
use Rattle.run_meaning.proofs.EventKinds.{stepping}
use Rattle.core_steps.proofs.DeedLemmas.{illegal-may, illegal-place, in-no-case, may-step}
use Rattle.core_steps.proofs.running.Running.stepper.Goals as goal

pub returns-in_err-place-clause-illegal : goal.returns-in_err-place-clause-illegal
returns-in_err-place-clause-illegal g c =
    let kept = c.args.self.now in
    in-no-case c.from_residual.result (illegal-place kept.world kept.state c.args.client (event.Step c.args.client) true Steps stepping c.in_err-place.ensures.nowhere)

pub returns-then-may_step-clause-may : goal.returns-then-may_step-clause-may
returns-then-may_step-clause-may g c =
    let there = c.in_ok-place.ensures.there in
    let asked = may-step c.args.self.now c.args.client c.in_ok-place.place there.number in
    record { stands = there; may_come = asked ∙ (ap may_step (sym c.client.ensures.progress) ∙ (sym c.may_step.ensures ∙ c.if-may_step.true)) }

pub returns-else-may_step-clause-illegal : goal.returns-else-may_step-clause-illegal
returns-else-may_step-clause-illegal g c =
    let kept = c.args.self.now in
    let there = c.in_ok-place.ensures.there in
    let asked = may-step kept c.args.client c.in_ok-place.place there.number in
    illegal-may kept.world kept.state c.args.client (event.Step c.args.client) true Steps stepping (asked ∙ (ap may_step (sym c.client.ensures.progress) ∙ (sym c.may_step.ensures ∙ c.if-may_step.false)))
