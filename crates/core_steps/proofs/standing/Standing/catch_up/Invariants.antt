use Rattle.std.proofs.Common.{◌≡◌, ◌-◌, length}
use Rattle.core_steps.specs.Standings.{IsCaught}
use Rattle.core_steps.proofs.standing.Standing.catch_up.Given as goal

-- what is kept is what so many entries make
abbrev pub invariant-loop-self : goal.invariant-loop-self
invariant-loop-self l =
    record {
      caught : IsCaught l.journal l.self;
      plan : l.self.plan ≡ l.initial.self.plan;
    }

abbrev pub decreases-loop-self : goal.decreases-loop-self
decreases-loop-self l = length l.journal - l.self.upto
