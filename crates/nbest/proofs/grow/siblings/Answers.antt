use Rattle.std.proofs.Common.{List, ◌∙◌, ap, sym, subst, ◌++◌, map, filter, append-nil}
use Rattle.std.proofs.lemmas.List.{drop_all}
use Rattle.mz_base.specs.declared.lattice.Entry.{Entry}
use Rattle.std.specs.List.Sorted.{IsNonDecreasingBy}
use Rattle.nbest.specs.Searches.{end_of, ordinals_to, sibling}
use Rattle.nbest.proofs.EndLemmas.{IsNonDecreasingBy-by_end, begins_in, ordinal_inside, ordinals_to-filter}
use Rattle.nbest.proofs.grow.siblings.Goals as goal

pub ending_at-ending-requires : goal.ending_at-ending-requires
ending_at-ending-requires g c =
    let l = c.args.lattice.now in
    subst (λ os. IsNonDecreasingBy (end_of c.as_slice-entries.result.now) os) (sym c.as_slice.ensures) (subst (λ es. IsNonDecreasingBy (end_of es) l.by_end) (sym c.as_slice-entries.ensures) (IsNonDecreasingBy-by_end l.entries l.by_end c.requires.well.by_end))

pub bounds-entries-ordinal : goal.bounds-entries-ordinal
bounds-entries-ordinal g c =
    ordinal_inside c.args.lattice.now.entries c.args.lattice.now.by_end c.as_slice-entries.result.now c.as_slice.result.now c.args.join.now.begin c.ending_at-ending.result.now c.loop-ordinal.ordinal-index c.requires.well.by_end c.as_slice-entries.ensures c.as_slice.ensures c.ending_at-ending.ensures c.loop-ordinal-test.true

pub sibling-requires-clause-inside : goal.sibling-requires-clause-inside
sibling-requires-clause-inside g c =
    ordinal_inside c.args.lattice.now.entries c.args.lattice.now.by_end c.as_slice-entries.result.now c.as_slice.result.now c.args.join.now.begin c.ending_at-ending.result.now c.loop-ordinal.ordinal-index c.requires.well.by_end c.as_slice-entries.ensures c.as_slice.ensures c.ending_at-ending.ensures c.loop-ordinal-test.true

pub returns-clause-all : goal.returns-clause-all
returns-clause-all g c =
    let d = g.D.DataSet.lists c.args.set.now in
    let l = c.args.lattice.now in
    let es = c.as_slice-entries.result.now in
    let span = c.args.span.now in
    let f = sibling d es c.args.costs.now c.args.join.now.lid in
    let items = c.ending_at-ending.result.now in
    let done = c.loop-ordinal.siblings.items in
    let none = drop_all c.loop-ordinal.ordinal-index items c.loop-ordinal-test.false in
    let made = sym (append-nil done) ∙ (ap (λ os. done ++ map f (filter (begins_in es span) os)) (sym none) ∙ c.loop-ordinal.invariant.all) in
    made ∙ (ap (λ os. map f (filter (begins_in es span) os)) c.ending_at-ending.ensures ∙ (ap (map f) (ordinals_to-filter es span c.args.join.now.begin c.as_slice.result.now) ∙ (ap (λ (xs : List Entry). map (sibling d xs c.args.costs.now c.args.join.now.lid) (ordinals_to xs c.as_slice.result.now span c.args.join.now.begin)) c.as_slice-entries.ensures ∙ ap (λ os. map (sibling d l.entries c.args.costs.now c.args.join.now.lid) (ordinals_to l.entries os span c.args.join.now.begin)) c.as_slice.ensures)))
