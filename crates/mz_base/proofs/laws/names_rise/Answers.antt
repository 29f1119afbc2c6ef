use Rattle.mz_base.proofs.ByNameLemmas.{latest_by_name-rise, latest_by_name-same}
use Rattle.mz_base.proofs.laws.names_rise.Goals as goal

pub returns : goal.returns
returns g c = record { same = latest_by_name-same; rise = latest_by_name-rise }
