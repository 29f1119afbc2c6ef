use Rattle.std.proofs.Common.{rules}
use Rattle.core_steps.specs.Cores.{IsMade, IsRefused}
use Rattle.core_steps.specs.Kepts.{ran}
use Rattle.core_steps.proofs.OrderLemmas.{made-come, made-refused}
use Rattle.core_steps.proofs.running.Running.make.Goals as goal

pub returns-in-Ok-clause-ok : goal.returns-in-Ok-clause-ok
returns-in-Ok-clause-ok g c =
    let refused : IsRefused (ran c.args.self.now) c.args.event (ran c.step.new.self) = search rules in
    made-refused (ran c.args.self.now) (ran c.step.new.self) c.args.event refused

pub returns-in-Ok-2-clause-ok : goal.returns-in-Ok-2-clause-ok
returns-in-Ok-2-clause-ok g c =
    let came : IsMade (ran c.args.self.now) c.args.event (ran c.step.new.self) = search rules in
    made-come (ran c.args.self.now) (ran c.step.new.self) c.args.event came
