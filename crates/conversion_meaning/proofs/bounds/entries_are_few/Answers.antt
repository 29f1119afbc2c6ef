use Rattle.conversion_meaning.proofs.Counts.{entries-few}
use Rattle.conversion_meaning.proofs.bounds.entries_are_few.Goals as goal

pub returns : goal.returns
returns _ = entries-few
