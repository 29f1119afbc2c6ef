use Rattle.std.proofs.Common.{refl, ap, subst, sym, ◌∙◌, List, get_or}
use Rattle.mz_base.specs.declared.lattice.Entry.{Entry}
use Rattle.mz_base.specs.Data.{IsCost}
use Rattle.conversion_meaning.specs.Lattices.{entry, no_entry}
use Rattle.nbest.specs.Searches.{AreThere, IsJoinOf, IsSearch, Search, first_of}
use Rattle.nbest.specs.Tails.{Ending, ending, no_ending}
use Rattle.nbest.proofs.FirstLemmas.{AreThere-tail, IsJoin-first, estimate_within, inside, small}
use Rattle.nbest.proofs.StepLemmas.{first_tail_of, rest_same}
use Rattle.nbest.proofs.search.NBest.join_of_first.Goals as goal

pub join_of-requires-clause-there : goal.join_of-requires-clause-there
join_of-requires-clause-there g c =
    let d = g.D.DataSet.lists c.args.set.now in
    let l = c.args.lattice.now in
    let search : IsSearch d l (record { span = c.self.inside.span; costs = c.self.inside.costs; queue = c.self.inside.queue; cache = c.self.inside.cache }) = subst (λ s. IsSearch d l s) (sym c.self.view_is) c.requires.search in
    let e = ending c.in-Some.first.now.0 in
    let tail = first_tail_of d l _ e search c.in-Some.ensures.first in
    subst (λ es. AreThere es e.ordinals) (sym c.as_slice.ensures) (AreThere-tail d l c.self.inside.span c.requires.well search.span e tail)

pub join_of-requires-clause-estimate : goal.join_of-requires-clause-estimate
join_of-requires-clause-estimate g c =
    let d = g.D.DataSet.lists c.args.set.now in
    let l = c.args.lattice.now in
    let search : IsSearch d l (record { span = c.self.inside.span; costs = c.self.inside.costs; queue = c.self.inside.queue; cache = c.self.inside.cache }) = subst (λ s. IsSearch d l s) (sym c.self.view_is) c.requires.search in
    let e = ending c.in-Some.first.now.0 in
    let tail = first_tail_of d l _ e search c.in-Some.ensures.first in
    estimate_within d l c.self.inside.span c.requires.well search.span e tail c.self.inside.costs search.costs (g.met.D.DataSet.sound c.args.set.now)

pub join_of-requires-clause-cost : goal.join_of-requires-clause-cost
join_of-requires-clause-cost g c =
    let d = g.D.DataSet.lists c.args.set.now in
    let l = c.args.lattice.now in
    let search : IsSearch d l (record { span = c.self.inside.span; costs = c.self.inside.costs; queue = c.self.inside.queue; cache = c.self.inside.cache }) = subst (λ s. IsSearch d l s) (sym c.self.view_is) c.requires.search in
    let e = ending c.in-Some.first.now.0 in
    let tail = first_tail_of d l _ e search c.in-Some.ensures.first in
    small d l c.self.inside.span c.requires.well search.span e tail c.self.inside.costs search.costs

pub join_of-requires-clause-own : goal.join_of-requires-clause-own
join_of-requires-clause-own g c =
    let d = g.D.DataSet.lists c.args.set.now in
    let l = c.args.lattice.now in
    let search : IsSearch d l (record { span = c.self.inside.span; costs = c.self.inside.costs; queue = c.self.inside.queue; cache = c.self.inside.cache }) = subst (λ s. IsSearch d l s) (sym c.self.view_is) c.requires.search in
    let e = ending c.in-Some.first.now.0 in
    let tail = first_tail_of d l _ e search c.in-Some.ensures.first in
    subst (λ es. IsCost (entry es (first_of e.ordinals)).cost) (sym c.as_slice.ensures) (c.requires.well.entries (first_of e.ordinals) no_entry (inside d l c.self.inside.span c.requires.well search.span e tail)).cost

pub returns : goal.returns
returns g c =
    let d = g.D.DataSet.lists c.args.set.now in
    let l = c.args.lattice.now in
    let s : Search = record { span = c.self.inside.span; costs = c.self.inside.costs; queue = c.self.inside.queue; cache = c.self.inside.cache } in
    let search : IsSearch d l s = subst (λ s. IsSearch d l s) (sym c.self.view_is) c.requires.search in
    let e = ending c.in-Some.first.now.0 in
    let tail = first_tail_of d l _ e search c.in-Some.ensures.first in
    let join = c.join_of.result in
    let begins = c.join_of.ensures.begin ∙ ap (λ (es : List Entry). (entry es (first_of e.ordinals)).begin) c.as_slice.ensures in
    let lids = c.join_of.ensures.lid ∙ ap (λ (es : List Entry). (entry es (first_of e.ordinals)).lid) c.as_slice.ensures in
    let rests = c.join_of.ensures.rest ∙ rest_same c.self.inside.costs c.self.inside.costs c.as_slice.result.now l.entries e refl c.as_slice.ensures in
    let r = IsJoin-first d l c.self.inside.span c.requires.well search.span e tail c.self.inside.costs search.costs (g.met.D.DataSet.sound c.args.set.now) join begins lids rests in
    let are : IsJoinOf d l.entries s.span e.ordinals join = record { is = r.0; lid = r.2; rest = r.1 } in
    let first : IsJoinOf d l.entries s.span (get_or s.queue 0 no_ending).ordinals join = subst (λ (x : Ending). IsJoinOf d l.entries s.span x.ordinals join) (sym c.in-Some.ensures.first.stands) are in
    subst (λ (x : Search). IsJoinOf d l.entries x.span (get_or x.queue 0 no_ending).ordinals join) c.self.view_is first
