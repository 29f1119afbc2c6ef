use Rattle.std.proofs.Common.{◌≡◌, ◌<◌, ◌+◌, ◌-◌, ◌^◌}
use Rattle.std.specs.List.{fold, range_with_len}
use Rattle.run_meaning.specs.Orders.{reload_came, reloads_left}
use Rattle.core_steps.specs.Cores.{now}
use Rattle.core_steps.specs.Kepts.{IsKept, ran}
use Rattle.core_steps.proofs.running.Running.all_reloads.Given as goal

-- what came so far, and then the reloads that are left, is what all of them make
abbrev pub invariant-loop-place : goal.invariant-loop-place
invariant-loop-place g l = record {
  kept : IsKept l.self;
  few : l.place-end < 2 ^ 32;
  rest : now (ran l.self) (fold (reload_came l.self.world) l.self.state (range_with_len (l.place + 1) (l.place-end - l.place))) ≡ now (ran l.initial.self) (fold (reload_came l.initial.self.world) l.initial.self.state (reloads_left l.initial.self.world));
}
