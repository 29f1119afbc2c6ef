use Rattle.std.proofs.Common.{refl}
use Rattle.schedule.proofs.Computing.{computing}
use Rattle.schedule.proofs.examples.bad_lines_are_told.Goals as goal

pub returns : goal.returns
unfolding computing
returns _ = record { second_heading = refl; user = refl; tab = refl; wide = refl; digits = refl; comment = refl; outcome = refl }
