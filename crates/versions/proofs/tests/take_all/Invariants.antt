use Rattle.std.proofs.Common.{◌≡◌}
use Rattle.versions.proofs.tests.take_all.Given as goal

abbrev pub invariant-loop : goal.invariant-loop
invariant-loop l = l.reader.prefix.registry ≡ l.fn.reader.prefix.registry
