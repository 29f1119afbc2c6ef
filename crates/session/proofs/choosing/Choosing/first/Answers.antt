use Rattle.std.proofs.Common.{[], ap, ◌∙◌, map, subst}
use Rattle.std.specs.Arc.{arc_value}
use Rattle.mz_base.specs.declared.conversion.Segment.{Segment}
use Rattle.session_meaning.specs.Outcomes.{conversion_of}
use Rattle.session_meaning.specs.Reached.{IsPinnedSound}
use Rattle.session_meaning.specs.Stages.{Composition}
use Rattle.session.proofs.ChoosingLemmas.{IsKept-first}
use Rattle.session.proofs.choosing.Choosing.first.Goals as goal

pub of-requires : goal.of-requires
of-requires g c =
    let composition = arc_value c.args.composition.now in
    let sound = subst (λ (x : Composition). IsPinnedSound x.pinned) c.deref.ensures c.data_are_sound.ensures in
    let made = c.in_ok-conversion.ensures ∙ ap (λ x. conversion_of x []) c.deref-2.ensures in
    let firsts = c.in_ok-chosen.ensures ∙ ap (map (λ (segment : Segment). 0)) c.as_slice-2.ensures in
    IsKept-first composition c.args.key.items c.in_ok-conversion.conversion c.in_ok-chosen.chosen.items sound c.requires.same c.requires.key made firsts
