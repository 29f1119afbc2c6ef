use Rattle.std.proofs.Common.{refl}
use Rattle.mz_base.proofs.LaterRow.{latest-further}
use Rattle.mz_base.proofs.laws.later_row_holds.Goals as goal

pub returns : goal.returns
returns g c = record { none = λ same. refl; further = λ same rows row. latest-further same row rows }
