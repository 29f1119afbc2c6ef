use Rattle.composer.proofs.KanaSteps.{view-fits, view-shorter}
use Rattle.std.proofs.Common.{arith, length, ap}
use Rattle.composer.proofs.shown.Shown.turn.Goals as goal

pub replace-requires-clause-fits : goal.replace-requires-clause-fits
replace-requires-clause-fits g c =
    omega (arith, ap length c.pending.ensures, view-fits _ c.pending.result.now c.in-Some.rule c.in-Some.ensures.sound c.in-Some.ensures.found)

pub replace-requires-clause-shorter : goal.replace-requires-clause-shorter
replace-requires-clause-shorter g c =
    view-shorter _ c.pending.result.now c.in-Some.rule c.in-Some.ensures.sound c.in-Some.ensures.found
