use Rattle.std.proofs.Common.{◌≡◌, ◌+◌, ◌-◌, length}
use Rattle.std.specs.List.{fold, range_with_len}
use Rattle.run_meaning.specs.Orders.{unless_reached, waited}
use Rattle.core_steps.specs.Cores.{now}
use Rattle.core_steps.specs.Kepts.{IsKept, ran}
use Rattle.core_steps.proofs.running.Running.waited.Given as goal

-- what came so far, and then the jobs that are left, is what the whole wait makes
abbrev pub invariant-loop-place : goal.invariant-loop-place
invariant-loop-place g l = record {
  kept : IsKept l.self;
  jobs : l.place-end ≡ length l.self.world.jobs;
  rest : now (ran l.self) (fold (unless_reached l.self.world l.wanted) l.self.state (range_with_len (l.place + 1) (l.place-end - l.place))) ≡ now (ran l.initial.self) (waited l.initial.self.world l.initial.self.state l.wanted);
}
