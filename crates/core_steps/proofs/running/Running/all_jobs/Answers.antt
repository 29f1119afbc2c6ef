use Rattle.std.proofs.Common.{◌≡◌, ◌+◌, ◌-◌, ◌∙◌, ap, sym, refl, subst, suc, arith, length}
use Rattle.std.specs.List.{fold, range_with_len}
use Rattle.run_meaning.specs.Orders.{all_jobs, job_came}
use Rattle.core_steps.specs.Cores.{Ran, now}
use Rattle.core_steps.specs.Kepts.{ran}
use Rattle.core_steps.proofs.OrderLemmas.{turn}
use Rattle.core_steps.proofs.running.Running.all_jobs.Goals as goal

pub loop-place-preserved : goal.loop-place-preserved
loop-place-preserved g c =
    let place = c.loop-place.place in
    let before = ran c.loop-place.self in
    let after = ran c.job_came.new.self in
    let whole = now (ran c.args.self.now) (all_jobs c.args.self.now.world c.args.self.now.state) in
    let n = c.len-place-end.result - (place + 1) in
    let count : c.len-place-end.result - place ≡ suc n = omega (arith, c.loop-place-test.true) in
    let rest = subst (λ m. now before (fold (job_came before.world) before.state (range_with_len (place + 1) m)) ≡ whole) count c.loop-place.invariant.rest in
    record {
      kept = c.in_ok-job_came.ensures.kept;
      jobs = c.loop-place.invariant.jobs ∙ ap (λ (r : Ran). length r.world.jobs) (sym c.in_ok-job_came.ensures.ok);
      rest = turn (λ world s. fold (job_came world) s (range_with_len (place + 1) (suc n))) (λ world s. fold (job_came world) s (range_with_len (place + 1 + 1) n)) (λ world s. job_came world s (place + 1)) before after whole refl c.in_ok-job_came.ensures.ok rest;
    }
