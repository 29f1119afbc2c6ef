use Rattle.std.proofs.Common.{ap, sym}
use Rattle.mz_base.specs.declared.event.Event.TheVariants as event
use Rattle.run_meaning.specs.Jobs.{entry_after, outcome_of}
use Rattle.run_meaning.specs.Worlds.{job_at}
use Rattle.core_steps.specs.Cores.{now}
use Rattle.core_steps.specs.Kepts.{ran}
use Rattle.core_steps.proofs.OrderLemmas.{made-illegal, no-job}
use Rattle.core_steps.proofs.running.Running.job_made.Goals as goal

pub returns-in-None-clause-ok : goal.returns-in-None-clause-ok
returns-in-None-clause-ok g c =
    let before = ran c.args.self.now in
    let o = outcome_of (entry_after before.state.logs.jobs c.args.job (job_at before.world c.args.job)) in
    ap (now before) (sym (made-illegal before.world before.state (event.Job c.args.job o) (no-job before.world before.state c.args.job o c.in-None.ensures.nowhere)))
