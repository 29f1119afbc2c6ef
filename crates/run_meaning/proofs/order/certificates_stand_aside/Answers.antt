use Rattle.run_meaning.proofs.AsideLemmas.{certificates_aside}
use Rattle.run_meaning.proofs.AsideRuns.{runs_aside}
use Rattle.run_meaning.proofs.order.certificates_stand_aside.Goals as goal

pub returns : goal.returns
returns c = record { lists = certificates_aside; runs = runs_aside }
