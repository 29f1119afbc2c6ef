use Rattle.std.proofs.Common.{subst, sym}
use Rattle.run_meaning.proofs.EventKinds.{after_close}
use Rattle.core_steps.specs.Kepts.{IsKept, Kept}
use Rattle.core_steps.proofs.ComingLemmas.{kept-close}
use Rattle.core_steps.proofs.running.Running.do_close.Goals as goal

pub returns-clause-kept : goal.returns-clause-kept
returns-clause-kept g c =
    let kept = kept-close c.args.self.now c.requires.kept c.requires.may in
    rw c.in_ok-push.ensures.ok (subst (λ (k : Kept). IsKept (record k { state = after_close k.state })) (sym c.self.view_is) kept)
