use Rattle.std.proofs.Common.{◌≡◌, ◌+◌, ◌-◌, ◌∙◌, ap, sym, subst, suc, false, true, arith, rules, length}
use Rattle.std.specs.Prelude.{if◌then◌else◌, nat_lt}
use Rattle.std.specs.List.{fold, range_with_len}
use Rattle.run_meaning.specs.Jobs.{newest}
use Rattle.run_meaning.specs.Orders.{job_came, unless_reached, waited}
use Rattle.core_steps.specs.Cores.{Ran, now}
use Rattle.core_steps.specs.Kepts.{ran}
use Rattle.core_steps.proofs.OrderLemmas.{stays-reached, turn}
use Rattle.core_steps.proofs.running.Running.waited.Goals as goal

pub loop-place-preserved : goal.loop-place-preserved
loop-place-preserved g c =
    let place = c.loop-place.place in
    let before = ran c.loop-place.self in
    let after = ran c.job_came.new.self in
    let whole = now (ran c.args.self.now) (waited c.args.self.now.world c.args.self.now.state c.args.wanted) in
    let n = c.len-place-end.result - (place + 1) in
    let count : c.len-place-end.result - place ≡ suc n = omega (arith, c.loop-place-test.true) in
    let rest = subst (λ m. now before (fold (unless_reached before.world c.args.wanted) before.state (range_with_len (place + 1) m)) ≡ whole) count c.loop-place.invariant.rest in
    let below : nat_lt (newest before.state.logs.jobs) c.args.wanted ≡ true = search rules in
    record {
      kept = c.in_ok-job_came.ensures.kept;
      jobs = c.loop-place.invariant.jobs ∙ ap (λ (r : Ran). length r.world.jobs) (sym c.in_ok-job_came.ensures.ok);
      rest = turn (λ world s. fold (unless_reached world c.args.wanted) s (range_with_len (place + 1) (suc n))) (λ world s. fold (unless_reached world c.args.wanted) s (range_with_len (place + 1 + 1) n)) (λ world s. job_came world s (place + 1)) before after whole (ap (λ b. fold (unless_reached before.world c.args.wanted) (if b then job_came before.world before.state (place + 1) else before.state) (range_with_len (place + 1 + 1) n)) (sym below)) c.in_ok-job_came.ensures.ok rest;
    }

pub returns-then-wanted-newest-clause-ok : goal.returns-then-wanted-newest-clause-ok
returns-then-wanted-newest-clause-ok g c =
    let before = ran c.loop-place.self in
    let reached : nat_lt (newest before.state.logs.jobs) c.args.wanted ≡ false = search rules in
    ap (now before) (sym (stays-reached before.world c.args.wanted before.state (range_with_len (c.loop-place.place + 1) (c.len-place-end.result - c.loop-place.place)) reached)) ∙ c.loop-place.invariant.rest
