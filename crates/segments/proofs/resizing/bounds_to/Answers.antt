use Rattle.std.proofs.Common.{ℕ, ap, ◌∙◌, ◌++◌, ◌∷◌, [], map, arith}
use Rattle.std.proofs.lemmas.List.{take_all}
use Rattle.segments.proofs.resizing.bounds_to.Goals as goal

pub returns : goal.returns
returns c =
    let before = c.split_at.result.0.now in
    let all = take_all c.loop-end_before.end_before-index before (omega (arith, c.loop-end_before-test.false)) in
    c.in_ok-push-2.ensures.items ∙ ap (λ xs. xs ++ c.args.end ∷ []) (c.loop-end_before.invariant ∙ ap (map (λ (part : ℕ × ℕ). part.1)) (all ∙ c.split_at.ensures.front))
