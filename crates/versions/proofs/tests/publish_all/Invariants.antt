use Rattle.std.proofs.Common.{◌≡◌}
use Rattle.versions.proofs.tests.publish_all.Given as goal

abbrev pub invariant-loop-place : goal.invariant-loop-place
invariant-loop-place g l = l.publisher.registry ≡ l.fn.publisher.registry
