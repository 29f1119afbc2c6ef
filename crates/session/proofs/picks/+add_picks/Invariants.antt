use Rattle.std.proofs.Common.{length}
use Rattle.session.proofs.picks.+add_picks.Given as goal

abbrev pub decreases-add_picks : goal.decreases-add_picks
decreases-add_picks l = length l.segments.now
