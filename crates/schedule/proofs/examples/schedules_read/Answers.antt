use Rattle.std.proofs.Common.{refl}
use Rattle.schedule.proofs.Computing.{computing}
use Rattle.schedule.proofs.examples.schedules_read.Goals as goal

pub returns : goal.returns
unfolding computing
returns _ = record { alone = refl; report = refl; nothing = refl; certificates = refl }
