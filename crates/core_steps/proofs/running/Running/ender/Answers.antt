use Rattle.std.proofs.Common.{sym, ap, ◌∙◌, true}
use Rattle.mz_base.specs.declared.event.Event.TheVariants as event
use Rattle.run_meaning.specs.Deeds.{Ends}
use Rattle.core_steps.specs.Helds.{may_end}
use Rattle.run_meaning.proofs.EventKinds.{ending}
use Rattle.core_steps.proofs.DeedLemmas.{illegal-may, illegal-place, in-no-case, may-end}
use Rattle.core_steps.proofs.running.Running.ender.Goals as goal

pub returns-in_err-place-clause-illegal : goal.returns-in_err-place-clause-illegal
returns-in_err-place-clause-illegal g c =
    let kept = c.args.self.now in
    in-no-case c.from_residual.result (illegal-place kept.world kept.state c.args.client (event.End c.args.client) true Ends ending c.in_err-place.ensures.nowhere)

pub returns-then-may_end-clause-may : goal.returns-then-may_end-clause-may
returns-then-may_end-clause-may g c =
    let there = c.in_ok-place.ensures.there in
    let asked = may-end c.args.self.now c.args.client c.in_ok-place.place there.number in
    record { stands = there; may_come = asked ∙ (ap may_end (sym c.client.ensures.progress) ∙ (sym c.may_end.ensures ∙ c.if-may_end.true)) }

pub returns-else-may_end-clause-illegal : goal.returns-else-may_end-clause-illegal
returns-else-may_end-clause-illegal g c =
    let kept = c.args.self.now in
    let there = c.in_ok-place.ensures.there in
    let asked = may-end kept c.args.client c.in_ok-place.place there.number in
    illegal-may kept.world kept.state c.args.client (event.End c.args.client) true Ends ending (asked ∙ (ap may_end (sym c.client.ensures.progress) ∙ (sym c.may_end.ensures ∙ c.if-may_end.false)))
