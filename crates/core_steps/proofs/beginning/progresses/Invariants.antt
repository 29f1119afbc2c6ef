use Rattle.std.proofs.Common.{◌≡◌, map}
use Rattle.run_meaning.specs.States.{begun_with}
use Rattle.run_meaning.specs.Worlds.{ClientPlan}
use Rattle.core_steps.proofs.beginning.progresses.Given as goal

-- the clients of the plans so far
abbrev pub invariant-loop-plan : goal.invariant-loop-plan
invariant-loop-plan g l =
    record {
      plans : map (λ client. client.plan) l.made.items ≡ l.yielded;
      progress : map (λ client. client.progress) l.made.items ≡ map (λ (plan : ClientPlan). begun_with plan.commands) l.yielded;
    }
