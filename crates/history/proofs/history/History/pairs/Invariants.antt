use Rattle.std.proofs.Common.{◌≡◌, ◌++◌}
use Rattle.history.specs.Pairs.{pairs_of}
use Rattle.history.proofs.history.History.pairs.Given as goal

-- the pairs so far, and then those that are left
abbrev pub invariant-loop-kept : goal.invariant-loop-kept
invariant-loop-kept l = l.pairs.items ++ pairs_of l.kept-iterator ≡ l.fn.self
