use Rattle.std.proofs.Common.{ap, subst}
use Rattle.core_steps.specs.Cores.{Ran, beginning, now}
use Rattle.run_meaning.specs.Orders.{run}
use Rattle.run_meaning.specs.States.{State}
use Rattle.world_files.specs.Reading.{Tells}
use Rattle.mozc_cli.specs.Reported.{shown}
use Rattle.mozc_cli.specs.Settles.{limited, output_of}
use Rattle.mozc_cli.proofs.outputs.run.Goals as goal

pub returns-clause-told : goal.returns-clause-told
returns-clause-told c =
    let made = rw c.in_ok-core.ensures at c.in_ok-run.ensures in
    subst (λ (s : State). Tells shown c.report_of.result (limited (output_of s.logs))) (ap (λ (r : Ran). r.state) made) c.report_of.ensures.told
