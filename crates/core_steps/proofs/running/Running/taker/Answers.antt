use Rattle.std.proofs.Common.{sym, ap, ◌∙◌}
use Rattle.std.specs.Prelude.{◌&&◌}
use Rattle.std.proofs.lemmas.Bool.{and_parts}
use Rattle.mz_base.specs.declared.event.Event.TheVariants as event
use Rattle.std.specs.Prelude.{length}
use Rattle.run_meaning.specs.Jobs.{is_published}
use Rattle.run_meaning.specs.States.{journal_of}
use Rattle.run_meaning.specs.Users.{data_of}
use Rattle.run_meaning.specs.Worlds.{user_of}
use Rattle.core_steps.specs.Helds.{may_take}
use Rattle.core_steps.specs.Kepts.{progress_at, taking_now}
use Rattle.run_meaning.proofs.EventKinds.{taking}
use Rattle.core_steps.proofs.DeedLemmas.{illegal-both, illegal-place, in-no-case, may-take}
use Rattle.core_steps.proofs.running.Running.taker.Goals as goal

pub returns-in_err-place-clause-illegal : goal.returns-in_err-place-clause-illegal
returns-in_err-place-clause-illegal g c =
    let kept = c.args.self.now in
    in-no-case c.from_residual.result (illegal-place kept.world kept.state c.args.client (event.Take c.args.client c.args.job) (is_published kept.state.logs.jobs c.args.job) (taking_now kept c.args.client c.args.job) (taking c.args.job) c.in_err-place.ensures.nowhere)

pub returns-then-can_take-clause-may : goal.returns-then-can_take-clause-may
returns-then-can_take-clause-may g c =
    let kept = c.args.self.now in
    let place = c.in_ok-place.place in
    let there = c.in_ok-place.ensures.there in
    let both = and_parts (is_published kept.state.logs.jobs c.args.job) (may_take (progress_at kept place) c.args.job) (sym c.can_take.ensures ∙ c.if-can_take.true) in
    let asked = may-take kept c.args.client place there.number (data_of kept.world (user_of kept.world c.args.client) c.args.job (journal_of kept.state (user_of kept.world c.args.client))) (length (journal_of kept.state (user_of kept.world c.args.client))) in
    record { may = record { stands = there; may_come = asked ∙ both.1 }; published = both.0 }

pub returns-else-can_take-clause-illegal : goal.returns-else-can_take-clause-illegal
returns-else-can_take-clause-illegal g c =
    let kept = c.args.self.now in
    let place = c.in_ok-place.place in
    let there = c.in_ok-place.ensures.there in
    let asked = may-take kept c.args.client place there.number (data_of kept.world (user_of kept.world c.args.client) c.args.job (journal_of kept.state (user_of kept.world c.args.client))) (length (journal_of kept.state (user_of kept.world c.args.client))) in
    illegal-both kept.world kept.state c.args.client (event.Take c.args.client c.args.job) (is_published kept.state.logs.jobs c.args.job) (taking_now kept c.args.client c.args.job) (taking c.args.job) (ap (λ b. (is_published kept.state.logs.jobs c.args.job) && b) asked ∙ (sym c.can_take.ensures ∙ c.if-can_take.false))
