use Rattle.std.proofs.Common.{refl}
use Rattle.run_meaning.proofs.Computing.{computing}
use Rattle.run_meaning.proofs.examples.data_are_replaced_between_compositions.Goals as goal

pub returns : goal.returns
unfolding computing
returns _ =
    record { versions = refl; jobs = refl; named = refl; seen = refl; learns = refl; entries = refl; pairs = refl; composed = refl }
