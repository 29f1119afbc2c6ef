use Rattle.std.proofs.Common.{◌≡◌, ◌+◌, ◌-◌, refl, subst, suc, arith}
use Rattle.std.specs.List.{fold, range_with_len}
use Rattle.run_meaning.specs.Orders.{reload_came, reloads_left}
use Rattle.core_steps.specs.Cores.{now}
use Rattle.core_steps.specs.Kepts.{ran}
use Rattle.core_steps.proofs.OrderLemmas.{turn}
use Rattle.core_steps.proofs.running.Running.all_reloads.Goals as goal

pub loop-place-preserved : goal.loop-place-preserved
loop-place-preserved g c =
    let place = c.loop-place.place in
    let before = ran c.loop-place.self in
    let after = ran c.reload_came.new.self in
    let whole = now (ran c.args.self.now) (fold (reload_came c.args.self.now.world) c.args.self.now.state (reloads_left c.args.self.now.world)) in
    let n = c.most_reloads-place-end.result - (place + 1) in
    let count : c.most_reloads-place-end.result - place ≡ suc n = omega (arith, c.loop-place-test.true) in
    let rest = subst (λ m. now before (fold (reload_came before.world) before.state (range_with_len (place + 1) m)) ≡ whole) count c.loop-place.invariant.rest in
    record {
      kept = c.in_ok-reload_came.ensures.kept;
      few = c.loop-place.invariant.few;
      rest = turn (λ world s. fold (reload_came world) s (range_with_len (place + 1) (suc n))) (λ world s. fold (reload_came world) s (range_with_len (place + 1 + 1) n)) (λ world s. reload_came world s (place + 1)) before after whole refl c.in_ok-reload_came.ensures.ok rest;
    }
