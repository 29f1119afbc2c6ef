use Rattle.std.proofs.Common.{◌≡◌, ◌+◌, ◌-◌, length}
use Rattle.std.specs.List.{fold, range_with_len}
use Rattle.run_meaning.specs.Orders.{all_jobs, job_came}
use Rattle.core_steps.specs.Cores.{now}
use Rattle.core_steps.specs.Kepts.{IsKept, ran}
use Rattle.core_steps.proofs.running.Running.all_jobs.Given as goal

-- what came so far, and then the jobs that are left, is what all jobs make
abbrev pub invariant-loop-place : goal.invariant-loop-place
invariant-loop-place g l = record {
  kept : IsKept l.self;
  jobs : l.place-end ≡ length l.self.world.jobs;
  rest : now (ran l.self) (fold (job_came l.self.world) l.self.state (range_with_len (l.place + 1) (l.place-end - l.place))) ≡ now (ran l.initial.self) (all_jobs l.initial.self.world l.initial.self.state);
}
