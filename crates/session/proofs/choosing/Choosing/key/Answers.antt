use Rattle.std.proofs.Common.{ap, ◌∙◌, subst, sym}
use Rattle.std.specs.Arc.{arc_value}
use Rattle.session.specs.Kept.{Chosen, IsKept}
use Rattle.session.specs.declared.choosing.Made.{Made}
use Rattle.session.proofs.choosing.Choosing.key.Goals as goal

pub returns-clause-kept : goal.returns-clause-kept
returns-clause-kept g c =
    let same = c.as_slice.ensures.value ∙ ap (λ (made : Made). made.key.items) c.deref.ensures in
    let kept = subst (λ (x : Chosen). IsKept x.composition (arc_value c.self.inside.made).key.items x.choice) c.self.view_is c.self.invariant in
    subst (λ key. IsKept c.args.self.now.composition key c.args.self.now.choice) (sym same) kept
