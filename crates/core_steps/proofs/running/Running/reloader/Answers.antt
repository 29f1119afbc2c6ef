use Rattle.std.proofs.Common.{◌≡◌, ℕ, ◌+◌, ◌-◌, ◌<◌, ◌≤◌, false, ap, length, not, subst, sym, ◌∙◌, arith}
use Rattle.std.specs.Prelude.{◌&&◌}
use Rattle.std.proofs.lemmas.List.{length-map}
use Rattle.run_meaning.specs.Numbers.{is_number}
use Rattle.run_meaning.specs.States.{journal_of}
use Rattle.run_meaning.specs.Users.{is_entered}
use Rattle.run_meaning.specs.Worlds.{reloads_of}
use Rattle.core_steps.specs.Kepts.{Kept}
use Rattle.core_steps.specs.declared.standing.Standing.{Standing}
use Rattle.core_steps.proofs.ComingLemmas.{behind-is-none, no-such-user, not-awaited, reload-not-begun, zero-is-none}
use Rattle.core_steps.proofs.running.Running.reloader.Goals as goal
use Rattle.core_steps.proofs.running.Running.reloader.Goals.{else-is_published-via-then-is_published+then-place-len+else-awaits_reload, else-is_published-via-then-is_published+else-place-len, else-is_published-via-else-is_published}

-- the place before a number
next : (number place : ℕ) → (1 ≤ number) × (place ≡ number - 1) → place + 1 ≡ number
next number place is = let some = is.0 in let place_is = is.1 in omega (arith, some, place_is)

-- a place behind all has a number behind all
behind : (number place count : ℕ) → (1 ≤ number) × (place ≡ number - 1) → count ≤ place → count < number
behind number place count is high = let some = is.0 in let place_is = is.1 in omega (arith, some, place_is, high)

pub returns-in_err-place-clause-illegal : goal.returns-in_err-place-clause-illegal
returns-in_err-place-clause-illegal g c =
    let now = c.args.self.now in
    rw c.from_residual.ensures (no-such-user now.world now.state c.args.user c.args.reload (zero-is-none now.world.users c.args.user c.in_err-place.ensures))

pub returns-else-is_published-clause-illegal : goal.returns-else-is_published-clause-illegal
returns-else-is_published-clause-illegal g c =
    let now = c.args.self.now in
    let user = c.args.user in
    let reload = c.args.reload in
    let place = c.in_ok-place.place in
    elim c.else-is_published.branch [
      | else-is_published-via-then-is_published+then-place-len+else-awaits_reload w ↦ not-awaited now.world now.state user reload (subst (λ n. (is_number (reloads_of now.world n) reload && not (is_entered (journal_of now.state n) reload)) ≡ false) (next user place c.in_ok-place.ensures) (sym w.awaits_reload.ensures ∙ w.if-awaits_reload.false))
      | else-is_published-via-then-is_published+else-place-len w ↦ no-such-user now.world now.state user reload (behind-is-none now.world.users user (behind user place (length now.world.users) c.in_ok-place.ensures (subst (λ n. n ≤ place) (w.len.ensures ∙ (c.self.inside.users.ok.0 ∙ (ap (λ (k : Kept). length k.users) c.self.view_is ∙ (sym (length-map now.users (λ (u : Standing). u.plan)) ∙ ap length (sym c.requires.plans))))) w.if-place-len.false)))
      | else-is_published-via-else-is_published w ↦ reload-not-begun now.world now.state user reload (sym c.is_published.ensures ∙ w.if-is_published.false)
    ]
