use Rattle.schedule.proofs.ReadEvents.{events-good}
use Rattle.schedule.proofs.laws.read_events_can_be_printed.Goals as goal

pub returns : goal.returns
returns c = events-good
