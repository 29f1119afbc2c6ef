use Rattle.std.proofs.Common.{rules, refl, subst, sym}
use Rattle.mz_base.specs.declared.event.Event.TheVariants as event
use Rattle.core_steps.specs.Comings.{JobMayCome}
use Rattle.core_steps.specs.Cores.{IsMade, Ran}
use Rattle.core_steps.specs.Kepts.{ran}
use Rattle.core_steps.proofs.ComingLemmas.{job-made}
use Rattle.core_steps.proofs.running.Running.job.Goals as goal

pub returns-clause-stepped : goal.returns-clause-stepped
returns-clause-stepped g c =
    let kept = c.args.self.now in
    let may : JobMayCome kept c.args.job c.args.outcome c.in_ok-place.place = search rules in
    subst (λ (r : Ran). IsMade (ran kept) (event.Job c.args.job c.args.outcome) r) (sym c.in_ok-do_job.ensures.ok) (record { world = refl; state = job-made kept.world kept.state c.args.job c.args.outcome may.legal })
