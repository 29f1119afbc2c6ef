use Rattle.std.proofs.Common.{◌≡◌, ℕ, Vec, Global, ap, ◌∙◌, ◌<◌, length, map, w32, to_z, of_z}
use Rattle.std.proofs.lemmas.Int.{to_z-of_z}
use Rattle.std.specs.Prelude.{IfSome}
use Rattle.std.proofs.lemmas.Result.{IfOk-weaker}
use Rattle.conversion_meaning.specs.Lattices.{AreBounds}
use Rattle.mz_base.specs.declared.conversion.Segment.{Segment}
use Rattle.session_meaning.specs.Stages.{reading}
use Rattle.session.proofs.ChoosingLemmas.{Widens, wider-are, wider-few}
use Rattle.session.proofs.choosing.Choosing.wider_bounds.Goals as goal

pub returns-clause-made : goal.returns-clause-made
returns-clause-made g c =
    let parts = c.as_slice.ensures.value ∙ (c.in_ok-parts.ensures ∙ ap (map (λ (segment : Segment). (segment.begin, segment.end))) c.segments.ensures) in
    let focus = c.focus.ensures.focus in
    let len = ap length c.key.ensures.key in
    let by : to_z w32 (of_z w32 c.args.by) ≡ c.args.by = to_z-of_z w32 c.args.by (record { sfits = c.ranges.by.sfits }) in
    rw (parts, focus, len, by) at c.resize.ensures

pub returns-clause-are : goal.returns-clause-are
returns-clause-are g c =
    IfOk-weaker c.resize.result (Widens c.args.self.now c.key.result.now c.args.by c.key.ensures.kept) (λ bounds. IfSome bounds (λ (made : Vec ℕ Global). AreBounds (reading c.args.self.now.composition) made.items)) (wider-are c.args.self.now c.key.result.now c.args.by c.key.ensures.kept) (returns-clause-made g c)

pub returns-clause-few : goal.returns-clause-few
returns-clause-few g c =
    IfOk-weaker c.resize.result (Widens c.args.self.now c.key.result.now c.args.by c.key.ensures.kept) (λ bounds. IfSome bounds (λ (made : Vec ℕ Global). c.args.self.now.choice.focus < length made.items)) (wider-few c.args.self.now c.key.result.now c.args.by c.key.ensures.kept) (returns-clause-made g c)
