use Rattle.std.proofs.Common.{◌≡◌, refl, sym, ap, ◌∙◌, subst, ◌+◌, true, false, List, length, arith}
use Rattle.mz_base.specs.declared.lattice.Entry.{Entry}
use Rattle.conversion_meaning.specs.Lattices.{entry}
use Rattle.conversion_meaning.specs.Potentials.{is_in}
use Rattle.viterbi.specs.declared.arrivals.Arrival.{Arrival}
use Rattle.viterbi.specs.declared.table.Reached.{Reached}
use Rattle.lattice.specs.Begins.{IsBegin}
use Rattle.viterbi.specs.Arrivals.{AreAllArrivals, IsReachedBy, target_of}
use Rattle.viterbi.specs.Table.{no_reached}
use Rattle.viterbi.proofs.TableLemmas.{IsSoFar, IsSoFar-next, begins_in_order}
use Rattle.viterbi.proofs.table.table_of.Goals as goal

pub loop-o-preserved : goal.loop-o-preserved
loop-o-preserved g c =
    let d = g.D.DataSet.lists c.args.set.now in
    let l = c.args.lattice.now in
    let span = c.args.span.now in
    let n = c.loop-o.o in
    let table = c.loop-o.table in
    let here = c.in_ok-here.here in
    let r = c.row_of.result in
    let by_end = c.as_slice-by_end.result.now in
    let entries_are = c.as_slice-entries.ensures in
    let Inside : List Entry → List Arrival → Type 0 = λ es xs. is_in span (entry es n) ≡ true → IsReachedBy d span xs (target_of (entry es n)) r in
    let Outside : List Entry → Type 0 = λ es. is_in span (entry es n) ≡ false → r ≡ no_reached in
    let inside : Inside l.entries here.list.items = subst (λ es. Inside es here.list.items) entries_are (subst (λ xs. Inside c.as_slice-entries.result.now xs) c.as_slice.ensures.value c.row_of.ensures.inside) in
    let outside : Outside l.entries = subst Outside entries_are c.row_of.ensures.outside in
    let all : AreAllArrivals l.entries l.by_end span table here = subst (λ es. AreAllArrivals es l.by_end span table here) entries_are (subst (λ ks. AreAllArrivals c.as_slice-entries.result.now ks span table here) c.as_slice-by_end.ensures c.in_ok-here.ensures.all) in
    let to : here.to ≡ (entry l.entries n).begin = c.in_ok-here.ensures.to ∙ ap (λ es. (entry es n).begin) entries_are in
    let low = c.loop-o-test.true in
    let within = c.first_beginning_at-end.ensures.within in
    let count = ap (λ (es : List Entry). length es) entries_are in
    subst (λ (t : List Reached). IsSoFar d l span here t (n + 1)) (sym c.in_ok-push.ensures) (IsSoFar-next d l span c.requires.well c.requires.span (g.met.D.DataSet.sound c.args.set.now) c.loop-o.here here table n (entry l.entries n) r c.loop-o.invariant (omega (arith, low, within, count)) refl all to inside outside)

pub returns : goal.returns
returns g c =
    let es = c.args.lattice.now.entries in
    let span = c.args.span.now in
    let first = c.first_beginning_at-first.result in
    let end = c.first_beginning_at-end.result in
    let at : IsBegin es span.begin first = subst (λ (xs : List Entry). IsBegin xs span.begin first) c.as_slice-entries.ensures c.first_beginning_at-first.ensures in
    let behind : IsBegin es span.end end = subst (λ (xs : List Entry). IsBegin xs span.end end) c.as_slice-entries.ensures c.first_beginning_at-end.ensures in
    let forward = c.requires.span.forward in
    let order = begins_in_order es span.begin span.end first end (omega (arith, forward)) at behind in
    let past = c.loop-o-test.false in
    let far = c.loop-o.auto.o-end order in
    let count = c.loop-o.invariant.count in
    let same : end ≡ length c.loop-o.table = omega (arith, past, far, count) in
    record { all = subst (λ n. IsBegin es span.end n) same behind; is = c.loop-o.invariant.is }
