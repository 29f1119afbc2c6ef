use Rattle.std.proofs.Common.{refl}
use Rattle.mz_base.specs.Data.{places, word_at}
use Rattle.mz_base.specs.Ordered.{in_order}
use Rattle.conversion_meaning.specs.Firsts.{firsts}
use Rattle.conversion_meaning.specs.Suggestions.{suggestions}
use Rattle.conversion_meaning.proofs.examples.kyo_suggestions.Goals as goal

pub returns : goal.returns
unfolding places word_at in_order firsts suggestions
returns _ = refl
