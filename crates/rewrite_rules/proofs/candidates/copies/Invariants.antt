use Rattle.std.proofs.Common.{◌≡◌, take}
use Rattle.rewrite_rules.proofs.candidates.copies.Given as goal

abbrev pub invariant-loop-candidate : goal.invariant-loop-candidate
invariant-loop-candidate l = l.copied.items ≡ take l.candidate-index l.list
