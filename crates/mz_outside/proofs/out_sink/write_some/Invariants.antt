use Rattle.std.proofs.Common.{◌≡◌}
use Rattle.mz_outside.proofs.out_sink.write_some.Given as goal

-- an interrupted write took nothing
abbrev pub invariant-loop : goal.invariant-loop
invariant-loop g l = g.W.Write.contents l.out ≡ g.W.Write.contents l.initial.out
