use Rattle.std.proofs.Common.{◌≡◌, drop}
use Rattle.mozc_cli.specs.Replays.{played_lines}
use Rattle.mozc_cli.proofs.replay.play.Given as goal

-- what the events so far made, and then those that are left, is what all of them make
abbrev pub invariant-loop-line : goal.invariant-loop-line
invariant-loop-line g l =
    (played_lines l.core.world l.core.state (drop l.line-index l.events) ≡ played_lines l.initial.core.world l.initial.core.state l.events) × (l.core.world ≡ l.initial.core.world)
