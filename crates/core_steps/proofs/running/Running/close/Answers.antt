use Rattle.std.proofs.Common.{refl, subst, sym, ◌∙◌}
use Rattle.mz_base.specs.declared.event.Event.TheVariants as event
use Rattle.core_steps.specs.Cores.{IsMade, Ran}
use Rattle.core_steps.specs.Kepts.{ran}
use Rattle.core_steps.proofs.ComingLemmas.{close-made, close-refused}
use Rattle.core_steps.proofs.running.Running.close.Goals as goal

pub returns-then-not-may_close-clause-stepped : goal.returns-then-not-may_close-clause-stepped
returns-then-not-may_close-clause-stepped g c =
    let kept = c.args.self.now in
    record { illegal = close-refused kept.world kept.state (sym c.may_close.ensures ∙ c.if-not-may_close.true); same = refl }

pub returns-clause-stepped : goal.returns-clause-stepped
returns-clause-stepped g c =
    let kept = c.args.self.now in
    subst (λ (r : Ran). IsMade (ran kept) event.Close r) (sym c.in_ok-do_close.ensures.ok) (record { world = refl; state = close-made kept.world kept.state (sym c.may_close.ensures ∙ c.if-not-may_close.false) })
