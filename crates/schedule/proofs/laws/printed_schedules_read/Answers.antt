use Rattle.schedule.proofs.ReadAgain.{reads-again}
use Rattle.schedule.proofs.laws.printed_schedules_read.Goals as goal

pub returns : goal.returns
returns c = reads-again
