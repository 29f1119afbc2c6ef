use Rattle.std.proofs.Common.{◌≡◌, sym, ap, ◌∙◌, subst, ℕ, ◌+◌, ◌-◌, ◌++◌, ◌∷◌, [], Bool, List, map, length, arith, w64, to_z, of_z}
use Rattle.std.specs.Prelude.{ℤ}
use Rattle.std.specs.List.{filter, range_with_len}
use Rattle.std.proofs.lemmas.Int.{ints}
use Rattle.conversion_meaning.specs.Lattices.{entry}
use Rattle.conversion_meaning.specs.Potentials.{is_in, ordinals_in}
use Rattle.viterbi.specs.Table.{reached}
use Rattle.viterbi.specs.declared.table.Reached.{Reached}
use Rattle.viterbi.proofs.SolvedLemmas.{IsWithin-reached, costs_kept, costs_skipped, costs_all, ordinals_between}
use Rattle.viterbi.proofs.table.potentials.Goals as goal
use Rattle.viterbi.proofs.table.potentials.Goals.{then-is_in+in_ok-push, else-is_in}

pub returns : goal.returns
unfolding ordinals_in
returns c =
    costs_all (λ o. is_in c.args.span.now (entry c.args.entries.now o)) (λ o. (reached c.args.table.now o).cost) c.loop-o.o c.first_beginning_at-end.result c.loop-o.costs.items _ c.loop-o-test.false c.loop-o.invariant

pub loop-o-init : goal.loop-o-init
loop-o-init c =
    let es = c.args.entries.now in
    let span = c.args.span.now in
    let cost : ℕ → ℤ = λ o. (reached c.args.table.now o).cost in
    let passes : ℕ → Bool = λ o. is_in span (entry es o) in
    let first = c.first_beginning_at-first.result in
    let end = c.first_beginning_at-end.result in
    ap (λ out. out ++ map cost (filter passes (range_with_len first (end - first)))) c.in_ok-costs.ensures.items ∙ ap (map (λ o. (reached c.args.table.now o).cost)) (ordinals_between es span c.first_beginning_at-first.result c.first_beginning_at-end.result c.requires.ahead c.requires.span c.first_beginning_at-first.ensures c.first_beginning_at-end.ensures)

pub loop-o-preserved : goal.loop-o-preserved
loop-o-preserved c =
    let n = c.first_beginning_at-end.result in
    let o = c.loop-o.o in
    let passes : ℕ → Bool = λ o. is_in c.args.span.now (entry c.args.entries.now o) in
    let cost : ℕ → ℤ = λ o. (reached c.args.table.now o).cost in
    let All : List ℤ → Type 0 = λ out. out ++ map cost (filter passes (range_with_len (o + 1) (n - (o + 1)))) ≡ map cost (filter passes (range_with_len 0 (length c.args.entries.now))) in
    let low = c.loop-o-test.true in
    elim c.if-is_in.branch [ then-is_in+in_ok-push w ↦ (let read = ap (λ (r : Reached). r.cost) w.at.ensures in let within = IsWithin-reached c.args.table.now c.requires.small o in let above = within.above in let below = within.below in let fits : to_z w64 (of_z w64 (cost o)) ≡ cost o = grind (arith, ints) in let items = ap (λ v. v.items) w.costs-is ∙ (w.in_ok-push.ensures.items ∙ ap (λ z. c.loop-o.costs.items ++ z ∷ []) (ap (λ (z : ℤ). to_z w64 (of_z w64 z)) read ∙ fits)) in subst All (sym items) (costs_kept passes cost o n c.loop-o.costs.items _ low (sym c.is_in.ensures ∙ w.if-is_in.true) c.loop-o.invariant)) | else-is_in w ↦ (let items = ap (λ v. v.items) w.costs-is in subst All (sym items) (costs_skipped passes cost o n c.loop-o.costs.items _ low (sym c.is_in.ensures ∙ w.if-is_in.false) c.loop-o.invariant)) ]
