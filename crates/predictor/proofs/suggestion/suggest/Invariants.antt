use Rattle.std.proofs.Common.{◌+◌, ◌-◌, ◌<◌}
use Rattle.predictor.proofs.FoundWords.{count}
use Rattle.predictor.proofs.suggestion.suggest.Given as goal

-- some words are asked for
abbrev pub invariant-loop-words : goal.invariant-loop-words
invariant-loop-words g l = 0 < l.most

-- each time more are asked for, up to one more than there are
abbrev pub decreases-loop-words : goal.decreases-loop-words
decreases-loop-words g l = count (g.D.DataSet.lists l.set) l.base + 1 - l.most
