use Rattle.std.proofs.Common.{sym, ap, ◌∙◌}
use Rattle.std.specs.Prelude.{◌&&◌}
use Rattle.std.proofs.lemmas.Bool.{and_parts}
use Rattle.mz_base.specs.declared.event.Event.TheVariants as event
use Rattle.run_meaning.specs.Deeds.{FindsNone}
use Rattle.run_meaning.specs.Jobs.{newest}
use Rattle.core_steps.specs.Helds.{may_find_none}
use Rattle.core_steps.specs.Kepts.{progress_at}
use Rattle.run_meaning.proofs.EventKinds.{finding_none}
use Rattle.core_steps.proofs.DeedLemmas.{illegal-both, illegal-place, in-no-case, may-find-none}
use Rattle.core_steps.proofs.running.Running.finder.Goals as goal

pub returns-in_err-place-clause-illegal : goal.returns-in_err-place-clause-illegal
returns-in_err-place-clause-illegal g c =
    let kept = c.args.self.now in
    in-no-case c.from_residual.result (illegal-place kept.world kept.state c.args.client (event.NotYet c.args.client) kept.state.logs.closed (FindsNone (newest kept.state.logs.jobs)) finding_none c.in_err-place.ensures.nowhere)

pub returns-then-can_find_none-clause-may : goal.returns-then-can_find_none-clause-may
returns-then-can_find_none-clause-may g c =
    let kept = c.args.self.now in
    let place = c.in_ok-place.place in
    let there = c.in_ok-place.ensures.there in
    let both = and_parts kept.state.logs.closed (may_find_none (progress_at kept place) (newest kept.state.logs.jobs)) (sym c.can_find_none.ensures ∙ c.if-can_find_none.true) in
    record { stands = there; may_come = may-find-none kept c.args.client place there.number (newest kept.state.logs.jobs) ∙ both.1 }

pub returns-else-can_find_none-clause-illegal : goal.returns-else-can_find_none-clause-illegal
returns-else-can_find_none-clause-illegal g c =
    let kept = c.args.self.now in
    let place = c.in_ok-place.place in
    let there = c.in_ok-place.ensures.there in
    let asked = may-find-none kept c.args.client place there.number (newest kept.state.logs.jobs) in
    illegal-both kept.world kept.state c.args.client (event.NotYet c.args.client) kept.state.logs.closed (FindsNone (newest kept.state.logs.jobs)) finding_none (ap (λ b. kept.state.logs.closed && b) asked ∙ (sym c.can_find_none.ensures ∙ c.if-can_find_none.false))

pub returns-then-can_find_none-clause-closed : goal.returns-then-can_find_none-clause-closed
returns-then-can_find_none-clause-closed g c =
    let kept = c.args.self.now in
    (and_parts kept.state.logs.closed (may_find_none (progress_at kept c.in_ok-place.place) (newest kept.state.logs.jobs)) (sym c.can_find_none.ensures ∙ c.if-can_find_none.true)).0
