use Rattle.std.proofs.Common.{refl}
use Rattle.mozc_cli.proofs.Settling.{written-settles}
use Rattle.mozc_cli.proofs.command.answer.Goals as goal

pub returns-in-Ok-clause-settled : goal.returns-in-Ok-clause-settled
returns-in-Ok-clause-settled g c files told =
    written-settles _ _ _ _ _ (c.in-Ok.ensures.told files told) c.written.ensures.writes

pub returns-in-Err-clause-settled : goal.returns-in-Err-clause-settled
returns-in-Err-clause-settled g c files told =
    record { gives = c.in-Err.ensures.told files told; silent = refl }
