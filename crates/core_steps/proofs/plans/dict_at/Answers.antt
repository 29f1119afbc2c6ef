use Rattle.std.proofs.Common.{arith}
use Rattle.core_steps.proofs.PlanLemmas.{reload_there}
use Rattle.core_steps.proofs.plans.dict_at.Goals as goal

pub returns-clause-there : goal.returns-clause-there
returns-clause-there c = reload_there c.args.dicts.now c.args.reload c.in_ok-place.place c.get.result (omega (arith, c.in_ok-place.ensures)) c.get.ensures.lookup.0 c.get.ensures.lookup.1
