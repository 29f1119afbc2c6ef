use Rattle.std.proofs.Common.{◌≡◌, false, ap, subst, sym, ◌∙◌, List, drop, get_or}
use Rattle.std.specs.Prelude.{IfOk, OnErr, OnOk}
use Rattle.mz_base.specs.declared.lattice.Entry.{Entry}
use Rattle.nbest.specs.Searches.{AreThere, first_found, is_open, still_to_come}
use Rattle.nbest.proofs.FirstLemmas.{AreThere-tail}
use Rattle.nbest.proofs.StepLemmas.{taken}
use Rattle.nbest.proofs.search.NBest.next_in.Goals as goal

pub is_open-requires : goal.is_open-requires
is_open-requires g c = λ k e low.
    let search = c.loop-self.invariant.search in
    subst (λ es. AreThere es (get_or c.loop-self.self.queue k e).ordinals) (sym c.as_slice.ensures) (AreThere-tail (g.D.DataSet.lists c.args.set.now) c.args.lattice.now c.loop-self.self.span c.requires.well search.span (get_or c.loop-self.self.queue k e) (search.tails k e low))

pub returns-clause-found : goal.returns-clause-found
returns-clause-found g c =
    let d = g.D.DataSet.lists c.args.set.now in
    let l = c.args.lattice.now in
    let closed : is_open l.entries c.loop-self.self.span c.loop-self.self.queue ≡ false = sym (c.is_open.ensures ∙ ap (λ (es : List Entry). is_open es c.loop-self.self.span c.loop-self.self.queue) c.as_slice.ensures) ∙ c.loop-self-test.false in
    let r = taken d l c.loop-self.self c.take.new.self c.requires.well c.loop-self.invariant.search closed c.take.result c.take.ensures.ok c.take.ensures.err in
    subst (λ paths. IfOk c.take.result (λ found. found ≡ first_found d l.entries c.args.self.now.span paths)) c.loop-self.invariant.same (subst (λ span. IfOk c.take.result (λ found. found ≡ first_found d l.entries span (still_to_come d l.entries c.loop-self.self))) c.loop-self.invariant.span r.found_is)

pub returns-clause-rest : goal.returns-clause-rest
returns-clause-rest g c =
    let d = g.D.DataSet.lists c.args.set.now in
    let l = c.args.lattice.now in
    let closed : is_open l.entries c.loop-self.self.span c.loop-self.self.queue ≡ false = sym (c.is_open.ensures ∙ ap (λ (es : List Entry). is_open es c.loop-self.self.span c.loop-self.self.queue) c.as_slice.ensures) ∙ c.loop-self-test.false in
    let r = taken d l c.loop-self.self c.take.new.self c.requires.well c.loop-self.invariant.search closed c.take.result c.take.ensures.ok c.take.ensures.err in
    subst (λ paths. OnOk c.take.result (still_to_come d l.entries c.take.new.self ≡ drop 1 paths)) c.loop-self.invariant.same r.rest_is

pub returns-clause-err : goal.returns-clause-err
returns-clause-err g c =
    let d = g.D.DataSet.lists c.args.set.now in
    let l = c.args.lattice.now in
    let closed : is_open l.entries c.loop-self.self.span c.loop-self.self.queue ≡ false = sym (c.is_open.ensures ∙ ap (λ (es : List Entry). is_open es c.loop-self.self.span c.loop-self.self.queue) c.as_slice.ensures) ∙ c.loop-self-test.false in
    let r = taken d l c.loop-self.self c.take.new.self c.requires.well c.loop-self.invariant.search closed c.take.result c.take.ensures.ok c.take.ensures.err in
    subst (λ paths. OnErr c.take.result (still_to_come d l.entries c.take.new.self ≡ paths)) c.loop-self.invariant.same r.err_is

pub returns-clause-search : goal.returns-clause-search
returns-clause-search g c =
    let d = g.D.DataSet.lists c.args.set.now in
    let l = c.args.lattice.now in
    let closed : is_open l.entries c.loop-self.self.span c.loop-self.self.queue ≡ false = sym (c.is_open.ensures ∙ ap (λ (es : List Entry). is_open es c.loop-self.self.span c.loop-self.self.queue) c.as_slice.ensures) ∙ c.loop-self-test.false in
    let r = taken d l c.loop-self.self c.take.new.self c.requires.well c.loop-self.invariant.search closed c.take.result c.take.ensures.ok c.take.ensures.err in
    r.search_is
