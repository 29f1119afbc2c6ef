use Rattle.std.proofs.Common.{map}
use Rattle.conversion_meaning.specs.Suggestions.{word_pair}
use Rattle.predictor.proofs.KeptPairs.{kept-distinct}
use Rattle.predictor.proofs.suggestion.pairs_of.Goals as goal

pub returns : goal.returns
returns g c =
    kept-distinct c.args.base.now c.args.history.now (map (word_pair (g.D.DataSet.lists c.args.set.now)) c.args.words.now) c.new-pairs.result.items c.add_recalled.new.pairs.items c.add_words.new.pairs.items c.in_ok-add_words.ensures c.in_ok-add_recalled.ensures c.new-pairs.ensures.items
