use Rattle.std.proofs.Common.{ap, ◌∙◌, subst}
use Rattle.std.specs.Arc.{arc_value}
use Rattle.session_meaning.specs.Outcomes.{conversion_of, kept_places, values_before}
use Rattle.session.specs.Kept.{Chosen, IsKept}
use Rattle.session.proofs.ChoosingLemmas.{IsKept-anew}
use Rattle.session.proofs.choosing.Choosing.within.Goals as goal

pub of-requires : goal.of-requires
of-requires g c =
    let x = c.args.self.now in
    let old = (arc_value c.self.inside.made).key.items in
    let kept = subst (λ (x : Chosen). IsKept x.composition old x.choice) c.self.view_is c.self.invariant in
    let composition = ap (λ (x : Chosen). x.composition) c.self.view_is in
    let focus = ap (λ (x : Chosen). x.choice.focus) c.self.view_is in
    let key = c.in_ok-key.ensures.items ∙ c.key-2.ensures.key in
    let made = c.in_ok-conversion.ensures ∙ ap (λ y. conversion_of y c.args.bounds.now) (c.deref.ensures ∙ composition) in
    let chosen = c.in_ok-chosen.ensures ∙ ap (λ segments. kept_places segments (values_before x.choice)) c.as_slice.ensures in
    IsKept-anew x old c.args.bounds.now kept c.requires.bounds c.requires.few (arc_value c.self.inside.composition) c.in_ok-key.key.items c.in_ok-chosen.chosen.items c.self.inside.focus c.in_ok-conversion.conversion composition key focus made chosen
