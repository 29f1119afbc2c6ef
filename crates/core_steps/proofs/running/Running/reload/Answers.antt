use Rattle.std.proofs.Common.{rules, refl, subst, sym}
use Rattle.mz_base.specs.declared.event.Event.TheVariants as event
use Rattle.core_steps.specs.Comings.{ReloadMayCome}
use Rattle.core_steps.specs.Cores.{IsMade, Ran}
use Rattle.core_steps.specs.Kepts.{ran}
use Rattle.core_steps.proofs.ComingLemmas.{reload-made}
use Rattle.core_steps.proofs.running.Running.reload.Goals as goal

pub returns-clause-stepped : goal.returns-clause-stepped
returns-clause-stepped g c =
    let kept = c.args.self.now in
    let may : ReloadMayCome kept c.args.user c.args.reload c.in_ok-place.place = search rules in
    subst (λ (r : Ran). IsMade (ran kept) (event.Dict c.args.user c.args.reload) r) (sym c.in_ok-do_reload.ensures.ok) (record { world = refl; state = reload-made kept.world kept.state c.args.user c.args.reload may.legal })
