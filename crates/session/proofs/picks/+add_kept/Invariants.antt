use Rattle.std.proofs.Common.{length}
use Rattle.session.proofs.picks.+add_kept.Given as goal

abbrev pub decreases-add_kept : goal.decreases-add_kept
decreases-add_kept l = length l.segments.now
