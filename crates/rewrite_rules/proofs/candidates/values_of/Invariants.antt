use Rattle.std.proofs.Common.{take}
use Rattle.rewrite_rules.specs.Seen.{AreValues}
use Rattle.rewrite_rules.proofs.candidates.values_of.Given as goal

abbrev pub invariant-loop-candidate : goal.invariant-loop-candidate
invariant-loop-candidate l = AreValues l.seen.keys (take l.candidate-index l.list)
