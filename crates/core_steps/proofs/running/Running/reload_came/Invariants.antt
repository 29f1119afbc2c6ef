use Rattle.std.proofs.Common.{◌≡◌, ◌+◌, ◌-◌, length}
use Rattle.run_meaning.specs.Orders.{reload_came}
use Rattle.core_steps.specs.Cores.{now}
use Rattle.core_steps.specs.Kepts.{IsKept, ran}
use Rattle.core_steps.proofs.OrderLemmas.{reloads_from}
use Rattle.core_steps.proofs.running.Running.reload_came.Given as goal

-- what came so far, and then the reloads that are left, is what all of this number make
abbrev pub invariant-loop-place : goal.invariant-loop-place
invariant-loop-place g l = record {
  kept : IsKept l.self;
  users : l.place-end ≡ length l.self.world.users;
  rest : now (ran l.self) (reloads_from l.self.world l.self.state l.reload (l.place + 1) (l.place-end - l.place)) ≡ now (ran l.initial.self) (reload_came l.initial.self.world l.initial.self.state l.reload);
}
