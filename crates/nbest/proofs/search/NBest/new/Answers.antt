use Rattle.std.proofs.Common.{refl, ap, subst, sym, ◌∙◌, List, []}
use Rattle.std.specs.Prelude.{ℤ, pos}
use Rattle.std.specs.Arc.{arc_value}
use Rattle.std.specs.List.Sorted.{IsNonDecreasingBy, IsPermutation}
use Rattle.std.proofs.lemmas.List.Sorted.{IsPermutation-trans}
use Rattle.mz_base.specs.declared.lattice.Entry.{Entry}
use Rattle.conversion_meaning.proofs.BestLemmas.{AreForward-from_well}
use Rattle.conversion_meaning.proofs.Duality.{AreForward}
use Rattle.nbest.specs.Costs.{begins_at}
use Rattle.nbest.specs.Searches.{IsSearch, longer_tails, still_to_come}
use Rattle.nbest.specs.declared.join.Join.{Join}
use Rattle.nbest.proofs.CacheLemmas.{AreKept-none}
use Rattle.nbest.proofs.FamilyLemmas.{longer_tails-begun}
use Rattle.nbest.proofs.StepLemmas.{AreCosts-made, IsNonDecreasingBy-begins, IsSearch-begun, still_to_come-begun}
use Rattle.nbest.proofs.search.NBest.new.Goals as goal

pub from_potentials-requires-clause-rising : goal.from_potentials-requires-clause-rising
from_potentials-requires-clause-rising g c =
    let l = c.args.lattice.now in
    subst (λ (es : List Entry). IsNonDecreasingBy begins_at es) (sym c.as_slice-entries.ensures) (IsNonDecreasingBy-begins (g.D.DataSet.lists c.args.set.now) l c.requires.well)

pub from_potentials-requires-clause-ahead : goal.from_potentials-requires-clause-ahead
from_potentials-requires-clause-ahead g c =
    let l = c.args.lattice.now in
    subst (λ (es : List Entry). AreForward es) (sym c.as_slice-entries.ensures) (AreForward-from_well (g.D.DataSet.lists c.args.set.now) l c.requires.well)

pub siblings_at-requires-clause-count : goal.siblings_at-requires-clause-count
siblings_at-requires-clause-count g c =
    let d = g.D.DataSet.lists c.args.set.now in
    let l = c.args.lattice.now in
    let span = c.args.span.now in
    let are = AreCosts-made d l span (g.met.D.DataSet.sound c.args.set.now) c.requires.well c.requires.span c.args.solved.now.potentials c.requires.solved c.as_slice-entries.result.now c.as_slice.result.now c.in_ok-costs.costs c.as_slice-entries.ensures c.as_slice.ensures c.in_ok-costs.ensures in
    are.count

pub siblings_at-requires-clause-small : goal.siblings_at-requires-clause-small
siblings_at-requires-clause-small g c =
    let d = g.D.DataSet.lists c.args.set.now in
    let l = c.args.lattice.now in
    let span = c.args.span.now in
    let are = AreCosts-made d l span (g.met.D.DataSet.sound c.args.set.now) c.requires.well c.requires.span c.args.solved.now.potentials c.requires.solved c.as_slice-entries.result.now c.as_slice.result.now c.in_ok-costs.costs c.as_slice-entries.ensures c.as_slice.ensures c.in_ok-costs.ensures in
    are.small

pub siblings_at-requires-clause-kept : goal.siblings_at-requires-clause-kept
siblings_at-requires-clause-kept g c =
    AreKept-none (g.D.DataSet.lists c.args.set.now) c.args.lattice.now c.args.span.now c.in_ok-costs.costs c.in_ok-cache.cache c.in_ok-cache.ensures

pub returns-clause-search : goal.returns-clause-search
returns-clause-search g c =
    let d = g.D.DataSet.lists c.args.set.now in
    let l = c.args.lattice.now in
    let span = c.args.span.now in
    let are = AreCosts-made d l span (g.met.D.DataSet.sound c.args.set.now) c.requires.well c.requires.span c.args.solved.now.potentials c.requires.solved c.as_slice-entries.result.now c.as_slice.result.now c.in_ok-costs.costs c.as_slice-entries.ensures c.as_slice.ensures c.in_ok-costs.ensures in
    let join : Join = record { begin = span.end; lid = span.right; rest = pos 0 } in
    let ss = (arc_value c.in_ok-siblings.siblings).items in
    let sorted = c.in_ok-siblings.ensures.siblings in
    let tails = subst (λ es. IsPermutation (longer_tails d l span c.in_ok-costs.costs [] join) es) (sym c.in_ok-last.ensures.all) (longer_tails-begun d l span c.in_ok-costs.costs [] join ss sorted) in
    let queued = IsPermutation-trans _ _ _ tails c.in_ok-of.ensures in
    let kept = c.in_ok-siblings.ensures.kept in
    let search = IsSearch-begun d l span c.requires.well c.requires.span c.in_ok-costs.costs are join (record { begin_is = refl; lid_is = refl; rest_is = refl }) c.in_ok-of.field-0 queued c.siblings_at.new.self kept in
    subst (λ (costs : List ℤ). IsSearch d l (record { span = span; costs = costs; queue = c.in_ok-of.field-0; cache = c.siblings_at.new.self })) (sym c.costs.view_is) search

pub returns-clause-all : goal.returns-clause-all
returns-clause-all g c =
    let d = g.D.DataSet.lists c.args.set.now in
    let l = c.args.lattice.now in
    let span = c.args.span.now in
    let are = AreCosts-made d l span (g.met.D.DataSet.sound c.args.set.now) c.requires.well c.requires.span c.args.solved.now.potentials c.requires.solved c.as_slice-entries.result.now c.as_slice.result.now c.in_ok-costs.costs c.as_slice-entries.ensures c.as_slice.ensures c.in_ok-costs.ensures in
    let join : Join = record { begin = span.end; lid = span.right; rest = pos 0 } in
    let ss = (arc_value c.in_ok-siblings.siblings).items in
    let sorted = c.in_ok-siblings.ensures.siblings in
    let tails = subst (λ es. IsPermutation (longer_tails d l span c.in_ok-costs.costs [] join) es) (sym c.in_ok-last.ensures.all) (longer_tails-begun d l span c.in_ok-costs.costs [] join ss sorted) in
    let queued = IsPermutation-trans _ _ _ tails c.in_ok-of.ensures in
    ap (λ (costs : List ℤ). still_to_come d l.entries (record { span = span; costs = costs; queue = c.in_ok-of.field-0; cache = c.siblings_at.new.self })) c.costs.view_is ∙ still_to_come-begun d l span c.requires.well c.requires.span c.in_ok-costs.costs are join (record { begin_is = refl; lid_is = refl; rest_is = refl }) c.in_ok-of.field-0 queued c.siblings_at.new.self
