use Rattle.std.proofs.Common.{◌≡◌, ◌<◌, ◌+◌, drop, length}
use Rattle.std.specs.List.{fold}
use Rattle.run_meaning.specs.Orders.{obeyed}
use Rattle.run_meaning.specs.Worlds.{client_plan}
use Rattle.core_steps.specs.Cores.{now}
use Rattle.core_steps.specs.Kepts.{IsKept, ran}
use Rattle.core_steps.proofs.running.Running.all_obeyed.Given as goal

-- what came so far, and then the commands that are left, is what all commands make
abbrev pub invariant-loop-index : goal.invariant-loop-index
invariant-loop-index g l = record {
  kept : IsKept l.self;
  within : l.place < length l.self.world.clients;
  commands : l.index-end ≡ length (client_plan l.self.world (l.place + 1)).commands;
  rest : now (ran l.self) (fold (obeyed l.self.world (l.place + 1)) l.self.state (drop l.index (client_plan l.self.world (l.place + 1)).commands)) ≡ now (ran l.initial.self) (fold (obeyed l.initial.self.world (l.place + 1)) l.initial.self.state (client_plan l.initial.self.world (l.place + 1)).commands);
}
