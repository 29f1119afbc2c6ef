use Rattle.std.proofs.Common.{◌≡◌, ◌+◌, ◌-◌, ◌∙◌, ap, sym, refl, subst, suc, arith, length}
use Rattle.std.specs.List.{fold, range_with_len}
use Rattle.run_meaning.specs.Numbers.{numbers}
use Rattle.run_meaning.specs.Orders.{served}
use Rattle.core_steps.specs.Cores.{Ran, now}
use Rattle.core_steps.specs.Kepts.{ran}
use Rattle.core_steps.proofs.OrderLemmas.{turn}
use Rattle.core_steps.proofs.running.Running.serve_all.Goals as goal

pub loop-place-preserved : goal.loop-place-preserved
loop-place-preserved g c =
    let place = c.loop-place.place in
    let before = ran c.loop-place.self in
    let after = ran c.served.new.self in
    let whole = now (ran c.args.self.now) (fold (served c.args.self.now.world) c.args.self.now.state (numbers (length c.args.self.now.world.clients))) in
    let n = c.len-place-end.result - (place + 1) in
    let count : c.len-place-end.result - place ≡ suc n = omega (arith, c.loop-place-test.true) in
    let rest = subst (λ m. now before (fold (served before.world) before.state (range_with_len (place + 1) m)) ≡ whole) count c.loop-place.invariant.rest in
    record {
      kept = c.in_ok-served.ensures.kept;
      clients = c.loop-place.invariant.clients ∙ ap (λ (r : Ran). length r.world.clients) (sym c.in_ok-served.ensures.ok);
      rest = turn (λ world s. fold (served world) s (range_with_len (place + 1) (suc n))) (λ world s. fold (served world) s (range_with_len (place + 1 + 1) n)) (λ world s. served world s (place + 1)) before after whole refl c.in_ok-served.ensures.ok rest;
    }
