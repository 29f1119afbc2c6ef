use Rattle.std.proofs.Common.{◌≡◌, take}
use Rattle.session_meaning.specs.History.{learn}
use Rattle.history.proofs.history.History.learn_all.Given as goal

-- the pairs so far are learned
abbrev pub invariant-loop-pair : goal.invariant-loop-pair
invariant-loop-pair l = l.self ≡ learn l.initial.self (take l.pair-index l.pairs)
