use Rattle.std.proofs.Common.{◌≡◌, sym, ◌∙◌, subst, ℕ, All, List}
use Rattle.conversion_meaning.specs.Paths.{IsSpan}
use Rattle.conversion_meaning.specs.Segments.{span_between}
use Rattle.conversion_meaning.proofs.CutParts.{cut-parts_are_spans}
use Rattle.converter.proofs.conversion.segments_of.Goals as goal

pub segments_at-requires-clause-spans : goal.segments_at-requires-clause-spans
segments_at-requires-clause-spans g c =
    let d = g.D.DataSet.lists c.args.set.now in
    let l = c.args.lattice.now in
    let sound = g.met.D.DataSet.sound c.args.set.now in
    subst (λ (parts : List (ℕ × ℕ)). All (λ (part : ℕ × ℕ). IsSpan d l (span_between l.entries c.args.path.now part)) parts) (sym (c.as_slice.ensures.value ∙ c.in_ok-parts.ensures)) (cut-parts_are_spans d l c.requires.well c.args.path.now c.requires.joined sound.some_ids)
