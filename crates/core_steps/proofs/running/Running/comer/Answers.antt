use denote.Enum.Bare.{same_false}
use Rattle.std.proofs.Common.{◌≡◌, ℕ, ◌<◌, ◌≤◌, ◌-◌, ap, length, subst, sym, ◌∙◌, arith}
use Rattle.std.proofs.lemmas.List.{length-map}
use Rattle.mz_base.specs.contracts.event.Outcome.{the_type as outcome_type}
use Rattle.core_steps.specs.Kepts.{Kept}
use Rattle.core_steps.proofs.ComingLemmas.{another-outcome, behind-is-none, came-before, no-such-job, not-begun, zero-is-none}
use Rattle.core_steps.proofs.running.Running.comer.Goals as goal
use Rattle.core_steps.proofs.running.Running.comer.Goals.{else-place-len-via-then-place-len+then-may_begin+then-not-is_logged+else-eq, else-place-len-via-then-place-len+then-may_begin+else-not-is_logged, else-place-len-via-then-place-len+else-may_begin, else-place-len-via-else-place-len}

-- a place behind all has a number behind all
behind : (job place count : ℕ) → (1 ≤ job) × (place ≡ job - 1) → count ≤ place → count < job
behind job place count is high = let some = is.0 in let place_is = is.1 in omega (arith, some, place_is, high)

pub returns-in_err-place-clause-illegal : goal.returns-in_err-place-clause-illegal
returns-in_err-place-clause-illegal g c =
    let now = c.args.self.now in
    rw c.from_residual.ensures (no-such-job now.world now.state c.args.job c.args.outcome (zero-is-none now.world.jobs c.args.job c.in_err-place.ensures))

pub returns-else-place-len-clause-illegal : goal.returns-else-place-len-clause-illegal
returns-else-place-len-clause-illegal g c =
    let now = c.args.self.now in
    elim c.else-place-len.branch [
      | else-place-len-via-then-place-len+then-may_begin+then-not-is_logged+else-eq w ↦ another-outcome now.world now.state c.args.job c.args.outcome (λ same. same_false outcome_type c.args.outcome w.outcome_at.result (sym w.if-eq.ensures) (same ∙ sym w.outcome_at.ensures))
      | else-place-len-via-then-place-len+then-may_begin+else-not-is_logged w ↦ came-before now.world now.state c.args.job c.args.outcome (sym w.is_logged.ensures ∙ w.if-not-is_logged.false)
      | else-place-len-via-then-place-len+else-may_begin w ↦ not-begun now.world now.state c.args.job c.args.outcome (sym w.may_begin.ensures ∙ w.if-may_begin.false)
      | else-place-len-via-else-place-len w ↦ no-such-job now.world now.state c.args.job c.args.outcome (behind-is-none now.world.jobs c.args.job (behind c.args.job c.in_ok-place.place (length now.world.jobs) c.in_ok-place.ensures (subst (λ n. n ≤ c.in_ok-place.place) (c.len.ensures ∙ (c.self.inside.jobs.ok.0 ∙ (sym (length-map c.self.inside.jobs.items _) ∙ ap (λ (k : Kept). length k.world.jobs) c.self.view_is))) w.if-place-len.false)))
    ]
