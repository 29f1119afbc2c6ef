use Rattle.std.proofs.Common.{◌≡◌, ◌+◌, ◌-◌, length}
use Rattle.std.specs.List.{fold, range_with_len}
use Rattle.run_meaning.specs.Numbers.{numbers}
use Rattle.run_meaning.specs.Orders.{served}
use Rattle.core_steps.specs.Cores.{now}
use Rattle.core_steps.specs.Kepts.{IsKept, ran}
use Rattle.core_steps.proofs.running.Running.serve_all.Given as goal

-- what came so far, and then the clients that are left, is what all clients make
abbrev pub invariant-loop-place : goal.invariant-loop-place
invariant-loop-place g l = record {
  kept : IsKept l.self;
  clients : l.place-end ≡ length l.self.world.clients;
  rest : now (ran l.self) (fold (served l.self.world) l.self.state (range_with_len (l.place + 1) (l.place-end - l.place))) ≡ now (ran l.initial.self) (fold (served l.initial.self.world) l.initial.self.state (numbers (length l.initial.self.world.clients)));
}
