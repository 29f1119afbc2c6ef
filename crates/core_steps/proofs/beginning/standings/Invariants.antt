use Rattle.core_steps.specs.Standings.{AreFirst}
use Rattle.core_steps.proofs.beginning.standings.Given as goal

-- the users of the plans so far
abbrev pub invariant-loop-plan : goal.invariant-loop-plan
invariant-loop-plan l = AreFirst l.yielded l.made.items
