use Rattle.std.proofs.Common.{◌≡◌, map, take}
use Rattle.run_meaning.specs.States.{client_log}
use Rattle.core_steps.proofs.beginning.client_logs.Given as goal

-- the logs of the plans so far
abbrev pub invariant-loop-plan : goal.invariant-loop-plan
invariant-loop-plan l = l.logs.items ≡ map client_log (take l.plan-index l.plans)
