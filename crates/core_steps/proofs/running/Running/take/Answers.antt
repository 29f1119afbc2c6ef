use Rattle.std.proofs.Common.{rules}
use Rattle.core_steps.specs.Kepts.{IsTaking}
use Rattle.core_steps.proofs.TakeLemmas.{take-came}
use Rattle.core_steps.proofs.running.Running.take.Goals as goal

pub returns-clause-stepped : goal.returns-clause-stepped
returns-clause-stepped g c =
    let can : IsTaking c.args.self.now c.args.client c.in_ok-place.place c.args.job = search rules in
    take-came c.args.self.now c.do_take.new.self c.args.client c.in_ok-place.place c.args.job can c.in_ok-do_take.ensures.ok
