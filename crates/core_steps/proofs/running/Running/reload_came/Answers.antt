use Rattle.std.proofs.Common.{◌≡◌, ◌+◌, ◌-◌, ◌∙◌, ap, sym, subst, suc, arith, length}
use Rattle.mz_base.specs.declared.event.Event.TheVariants as event
use Rattle.run_meaning.specs.Orders.{made, reload_came}
use Rattle.core_steps.specs.Cores.{Ran, now}
use Rattle.core_steps.specs.Kepts.{ran}
use Rattle.core_steps.proofs.OrderLemmas.{reload-next, reloads_from, turn}
use Rattle.core_steps.proofs.running.Running.reload_came.Goals as goal

pub loop-place-preserved : goal.loop-place-preserved
loop-place-preserved g c =
    let place = c.loop-place.place in
    let before = ran c.loop-place.self in
    let after = ran c.make.new.self in
    let whole = now (ran c.args.self.now) (reload_came c.args.self.now.world c.args.self.now.state c.args.reload) in
    let n = c.len-place-end.result - (place + 1) in
    let count : c.len-place-end.result - place ≡ suc n = omega (arith, c.loop-place-test.true) in
    let rest = subst (λ m. now before (reloads_from before.world before.state c.args.reload (place + 1) m) ≡ whole) count c.loop-place.invariant.rest in
    record {
      kept = c.in_ok-make.ensures.kept;
      users = c.loop-place.invariant.users ∙ ap (λ (r : Ran). length r.world.users) (sym c.in_ok-make.ensures.ok);
      rest = turn (λ world s. reloads_from world s c.args.reload (place + 1) (suc n)) (λ world s. reloads_from world s c.args.reload (place + 1 + 1) n) (λ world s. made world s (event.Dict (place + 1) c.args.reload)) before after whole (sym (reload-next before.world before.state c.args.reload (place + 1) n)) c.in_ok-make.ensures.ok rest;
    }
