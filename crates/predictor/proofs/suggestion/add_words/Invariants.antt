use Rattle.std.proofs.Common.{◌≡◌, drop, map}
use Rattle.std.specs.List.{fold}
use Rattle.conversion_meaning.specs.Suggestions.{word_pair}
use Rattle.predictor.specs.Pairs.{with_pair}
use Rattle.predictor.proofs.suggestion.add_words.Given as goal

-- the words so far, and then those that are left, give what all give
abbrev pub invariant-loop-word : goal.invariant-loop-word
invariant-loop-word g l =
    fold with_pair l.pairs.items (map (word_pair (g.D.DataSet.lists l.set)) (drop l.word-index l.words)) ≡ fold with_pair l.initial.pairs.items (map (word_pair (g.D.DataSet.lists l.set)) l.words)
