use Rattle.std.proofs.Common.{◌≡◌, sym, ◌∙◌, subst, ℕ, List, map, arith, w64, to_z, of_z}
use Rattle.std.specs.Prelude.{AllPairs, pos, reverse}
use Rattle.conversion_meaning.specs.Lattices.{AreInOrder}
use Rattle.std.proofs.lemmas.Int.{ints}
use Rattle.mz_base.specs.declared.lattice.Entry.{Entry}
use Rattle.conversion_meaning.specs.Potentials.{AreLeastCosts, ordinals_in}
use Rattle.conversion_meaning.proofs.BestLemmas.{AreForward-from_well}
use Rattle.conversion_meaning.proofs.InOrderLemmas.{IsBest-is_first}
use Rattle.viterbi.specs.Table.{IsReached, IsTrail, reached}
use Rattle.viterbi.proofs.SolvedLemmas.{IfSome-last, AreLeastCosts-table, IsBest-reached, total_is, IsWithin-total, IsCertificate-reached}
use Rattle.viterbi.proofs.solver.solve.Goals as goal

pub trail-requires-clause-last : goal.trail-requires-clause-last
trail-requires-clause-last g c =
    let is = c.in_ok-last.ensures in
    IfSome-last c.in_ok-table.table c.in_ok-last.last.before is.back is.trail

pub potentials-requires-clause-rising : goal.potentials-requires-clause-rising
potentials-requires-clause-rising g c =
    subst (λ (es : List Entry). AllPairs AreInOrder es) (sym c.as_slice.ensures) c.requires.well.rising

pub returns-clause-best : goal.returns-clause-best
returns-clause-best g c =
    let d = g.D.DataSet.lists c.args.set.now in
    let l = c.args.lattice.now in
    let span = c.args.span.now in
    let table = c.in_ok-table.table in
    let r = c.in_ok-last.last in
    let path = c.from_vec-2.result in
    let is : IsReached d l.entries span table span.end span.right (pos 0) r = c.in_ok-last.ensures in
    let over : (back : List ℕ) × IsTrail table r.before back × (c.in_ok-path.path.items ≡ reverse back) = c.in_ok-path.ensures in
    let trail : (back : List ℕ) × IsTrail table r.before back × (path ≡ reverse back) = (over.0, over.1, c.from_vec-2.ensures ∙ over.2) in
    IsBest-reached d l span table r is path trail

pub returns-clause-first : goal.returns-clause-first
returns-clause-first g c =
    let d = g.D.DataSet.lists c.args.set.now in
    let l = c.args.lattice.now in
    let span = c.args.span.now in
    let table = c.in_ok-table.table in
    let r = c.in_ok-last.last in
    let path = c.from_vec-2.result in
    let is : IsReached d l.entries span table span.end span.right (pos 0) r = c.in_ok-last.ensures in
    let over : (back : List ℕ) × IsTrail table r.before back × (c.in_ok-path.path.items ≡ reverse back) = c.in_ok-path.ensures in
    let trail : (back : List ℕ) × IsTrail table r.before back × (path ≡ reverse back) = (over.0, over.1, c.from_vec-2.ensures ∙ over.2) in
    IsBest-is_first d l.entries span (AreForward-from_well d l c.requires.well) path (IsBest-reached d l span table r is path trail)

pub returns-clause-total : goal.returns-clause-total
returns-clause-total g c =
    let d = g.D.DataSet.lists c.args.set.now in
    let l = c.args.lattice.now in
    let span = c.args.span.now in
    let table = c.in_ok-table.table in
    let r = c.in_ok-last.last in
    let path = c.from_vec-2.result in
    let is : IsReached d l.entries span table span.end span.right (pos 0) r = c.in_ok-last.ensures in
    let over : (back : List ℕ) × IsTrail table r.before back × (c.in_ok-path.path.items ≡ reverse back) = c.in_ok-path.ensures in
    let trail : (back : List ℕ) × IsTrail table r.before back × (path ≡ reverse back) = (over.0, over.1, c.from_vec-2.ensures ∙ over.2) in
    let within = IsWithin-total d l span table r is path trail (g.met.D.DataSet.sound c.args.set.now) c.requires.well c.requires.span in
    let above = within.above in
    let below = within.below in
    let inside = c.requires.span.inside in
    let few = c.requires.well.key.few in
    let same : to_z w64 (of_z w64 r.cost) ≡ r.cost = grind (arith, ints) in
    same ∙ total_is d l span table r is path trail

pub returns-clause-potentials : goal.returns-clause-potentials
returns-clause-potentials g c =
    let d = g.D.DataSet.lists c.args.set.now in
    let l = c.args.lattice.now in
    let span = c.args.span.now in
    let table = c.in_ok-table.table in
    let Costs : List Entry → Type 0 = λ es. c.in_ok-costs.costs.items ≡ map (λ o. (reached table o).cost) (ordinals_in es span) in
    let are : Costs l.entries = subst Costs c.as_slice.ensures c.in_ok-costs.ensures in
    let ahead = AreForward-from_well d l c.requires.well in
    subst (λ ps. AreLeastCosts d l.entries span ps) (sym (c.from_vec-3.ensures ∙ are)) (AreLeastCosts-table d l span table ahead c.in_ok-table.ensures)

pub returns-clause-certified : goal.returns-clause-certified
returns-clause-certified g c =
    let d = g.D.DataSet.lists c.args.set.now in
    let l = c.args.lattice.now in
    let span = c.args.span.now in
    let table = c.in_ok-table.table in
    let r = c.in_ok-last.last in
    let path = c.from_vec-2.result in
    let is : IsReached d l.entries span table span.end span.right (pos 0) r = c.in_ok-last.ensures in
    let over : (back : List ℕ) × IsTrail table r.before back × (c.in_ok-path.path.items ≡ reverse back) = c.in_ok-path.ensures in
    let trail : (back : List ℕ) × IsTrail table r.before back × (path ≡ reverse back) = (over.0, over.1, c.from_vec-2.ensures ∙ over.2) in
    let within = IsWithin-total d l span table r is path trail (g.met.D.DataSet.sound c.args.set.now) c.requires.well c.requires.span in
    let above = within.above in
    let below = within.below in
    let inside = c.requires.span.inside in
    let few = c.requires.well.key.few in
    let same : to_z w64 (of_z w64 r.cost) ≡ r.cost = grind (arith, ints) in
    let Costs : List Entry → Type 0 = λ es. c.in_ok-costs.costs.items ≡ map (λ o. (reached table o).cost) (ordinals_in es span) in
    let are : Costs l.entries = subst Costs c.as_slice.ensures c.in_ok-costs.ensures in
    let ahead = AreForward-from_well d l c.requires.well in
    IsCertificate-reached d l span table r is path trail ahead c.in_ok-table.ensures c.requires.span c.from_vec-3.result (c.from_vec-3.ensures ∙ are) (to_z w64 (of_z w64 r.cost)) same
