use Rattle.std.proofs.Common.{sym, ap, ◌∙◌, true}
use Rattle.mz_base.specs.declared.event.Event.TheVariants as event
use Rattle.run_meaning.specs.Deeds.{Learns, lacks_learn}
use Rattle.run_meaning.proofs.EventKinds.{learning}
use Rattle.core_steps.proofs.DeedLemmas.{illegal-may, illegal-place, in-no-case, may-learn}
use Rattle.core_steps.proofs.running.Running.learner.Goals as goal

pub returns-in_err-place-clause-illegal : goal.returns-in_err-place-clause-illegal
returns-in_err-place-clause-illegal g c =
    let kept = c.args.self.now in
    in-no-case c.from_residual.result (illegal-place kept.world kept.state c.args.client (event.Learn c.args.client) true Learns learning c.in_err-place.ensures.nowhere)

pub returns-then-lacks_learn-clause-may : goal.returns-then-lacks_learn-clause-may
returns-then-lacks_learn-clause-may g c =
    let there = c.in_ok-place.ensures.there in
    let asked = may-learn c.args.self.now c.args.client c.in_ok-place.place there.number in
    record { stands = there; may_come = asked ∙ (ap lacks_learn (sym c.client.ensures.progress) ∙ (sym c.lacks_learn.ensures ∙ c.if-lacks_learn.true)) }

pub returns-else-lacks_learn-clause-illegal : goal.returns-else-lacks_learn-clause-illegal
returns-else-lacks_learn-clause-illegal g c =
    let kept = c.args.self.now in
    let there = c.in_ok-place.ensures.there in
    let asked = may-learn kept c.args.client c.in_ok-place.place there.number in
    illegal-may kept.world kept.state c.args.client (event.Learn c.args.client) true Learns learning (asked ∙ (ap lacks_learn (sym c.client.ensures.progress) ∙ (sym c.lacks_learn.ensures ∙ c.if-lacks_learn.false)))
