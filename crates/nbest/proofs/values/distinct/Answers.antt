use Rattle.std.proofs.Common.{◌≡◌, ap, subst, sym, ◌∙◌, ◌+◌, ◌-◌, ◌<◌, [], ◌∷◌, List, suc, drop, take, length, arith, w64, to_z, of_z}
use Rattle.std.specs.List.{All}
use Rattle.std.proofs.lemmas.Int.{ints}
use Rattle.conversion_meaning.specs.declared.candidates.TheConstants.{MOST_PATHS, MOST_VALUES}
use Rattle.mz_base.specs.declared.lattice.Candidate.{Candidate}
use Rattle.conversion_meaning.specs.Candidates.{path_value}
use Rattle.conversion_meaning.proofs.EntryLemmas.{IsWellFormed-from_entries}
use Rattle.conversion_meaning.specs.Paths.{path_cost}
use Rattle.nbest.specs.Searches.{first_found, still_to_come}
use Rattle.nbest.specs.declared.found.Found.{Found}
use Rattle.nbest.proofs.ValueLemmas.{IsGathered, IsGathered-more, IsGathered-none, added_is, first_values-all, first_values-full, found_inside, found_path, found_within, nothing_left, take_none, take_nothing}
use Rattle.nbest.proofs.values.distinct.Goals as goal

pub solve-requires-clause-well : goal.solve-requires-clause-well
solve-requires-clause-well g c =
    IsWellFormed-from_entries (g.D.DataSet.lists c.args.set.now) (g.U.UserWords.rows c.args.user.now) c.args.lattice.now (g.met.D.DataSet.sound c.args.set.now) c.requires.made

pub new-requires-clause-well : goal.new-requires-clause-well
new-requires-clause-well g c =
    IsWellFormed-from_entries (g.D.DataSet.lists c.args.set.now) (g.U.UserWords.rows c.args.user.now) c.args.lattice.now (g.met.D.DataSet.sound c.args.set.now) c.requires.made

pub next_in-requires-clause-well : goal.next_in-requires-clause-well
next_in-requires-clause-well g c =
    IsWellFormed-from_entries (g.D.DataSet.lists c.args.set.now) (g.U.UserWords.rows c.args.user.now) c.args.lattice.now (g.met.D.DataSet.sound c.args.set.now) c.requires.made

pub next_in-requires-clause-search : goal.next_in-requires-clause-search
next_in-requires-clause-search g c = c.loop-place.invariant.search

pub loop-place-init : goal.loop-place-init
loop-place-init g c =
    let d = g.D.DataSet.lists c.args.set.now in
    let rows = g.U.UserWords.rows c.args.user.now in
    let l = c.args.lattice.now in
    let span = c.args.span.now in
    let v = c.new-values.ensures in
    record {
      search = c.in_ok-search.ensures.search;
      span = c.in_ok-search.ensures.span;
      made = subst (λ (values : List Candidate). IsGathered d rows l span values MOST_PATHS (still_to_come d l.entries c.in_ok-search.search)) (sym c.new-values.ensures.items) (subst (λ paths. IsGathered d rows l span [] MOST_PATHS paths) (sym c.in_ok-search.ensures.all) (IsGathered-none d rows l span));
    }

pub returns-then-len-eq-MOST_VALUES : goal.returns-then-len-eq-MOST_VALUES
returns-then-len-eq-MOST_VALUES g c =
    let d = g.D.DataSet.lists c.args.set.now in
    let full : length c.loop-place.values.items ≡ MOST_VALUES = sym c.loop-place.values.ok.0 ∙ (sym c.len.ensures ∙ c.if-len-eq-MOST_VALUES.true) in
    first_values-full d (g.U.UserWords.rows c.args.user.now) c.args.lattice.now c.args.span.now c.loop-place.values.items (MOST_PATHS - c.loop-place._place) (still_to_come d c.args.lattice.now.entries c.loop-place.search) c.loop-place.invariant.made full

pub returns-in_default : goal.returns-in_default
returns-in_default g c =
    let d = g.D.DataSet.lists c.args.set.now in
    let l = c.args.lattice.now in
    let rows = g.U.UserWords.rows c.args.user.now in
    let s = c.loop-place.search in
    let found = c.in_ok-found.ensures.found ∙ ap (λ span. first_found d l.entries span (still_to_come d l.entries s)) c.loop-place.invariant.span in
    let nothing = nothing_left d rows l c.args.span.now (still_to_come d l.entries s) c.in_ok-found.field-0 c.in_default.not-Some found in
    first_values-all d rows l c.args.span.now c.loop-place.values.items (MOST_PATHS - c.loop-place._place) (still_to_come d l.entries s) c.loop-place.invariant.made (take_nothing (MOST_PATHS - c.loop-place._place) (still_to_come d l.entries s) nothing)

pub path_value-requires-clause-inside : goal.path_value-requires-clause-inside
path_value-requires-clause-inside g c =
    let d = g.D.DataSet.lists c.args.set.now in
    let l = c.args.lattice.now in
    let rows = g.U.UserWords.rows c.args.user.now in
    let s = c.loop-place.search in
    let found = sym c.in-Some.is ∙ (c.in_ok-found.ensures.found ∙ ap (λ span. first_found d l.entries span (still_to_come d l.entries s)) c.loop-place.invariant.span) in
    subst (λ path. All (λ o. o < length l.entries) path) (sym c.as_slice.ensures) (found_inside d rows l c.args.span.now s c.in-Some.found c.loop-place.invariant.span found)

pub loop-place-preserved : goal.loop-place-preserved
loop-place-preserved g c =
    let d = g.D.DataSet.lists c.args.set.now in
    let l = c.args.lattice.now in
    let rows = g.U.UserWords.rows c.args.user.now in
    let span = c.args.span.now in
    let s = c.loop-place.search in
    let values = c.loop-place.values.items in
    let f = c.in-Some.found in
    let found = sym c.in-Some.is ∙ (c.in_ok-found.ensures.found ∙ ap (λ x. first_found d l.entries x (still_to_come d l.entries s)) c.loop-place.invariant.span) in
    let r = found_path d rows l span (still_to_come d l.entries s) f found in
    let n = MOST_PATHS - (c.loop-place._place + 1) in
    let low = c.loop-place-test.true in
    let one : MOST_PATHS - c.loop-place._place ≡ suc n = omega (arith, low) in
    let gathered : IsGathered d rows l span values (suc n) (r.0 ∷ drop 1 (still_to_come d l.entries s)) = subst (λ ps. IsGathered d rows l span values (suc n) ps) r.1 (subst (λ k. IsGathered d rows l span values k (still_to_come d l.entries s)) one c.loop-place.invariant.made) in
    let few = c.loop-place.invariant.made.few in
    let counted = c.loop-place.values.ok.0 in
    let len_is = c.len.ensures in
    let other = c.if-len-eq-MOST_VALUES.false in
    let room : length values < MOST_VALUES = omega (arith, few, counted, len_is, other) in
    let well = IsWellFormed-from_entries d rows l (g.met.D.DataSet.sound c.args.set.now) c.requires.made in
    let within = found_within d rows l span (g.met.D.DataSet.sound c.args.set.now) well c.requires.span s f c.loop-place.invariant.span found in
    let above = within.above in
    let below = within.below in
    let inside = c.requires.span.inside in
    let most = well.key.few in
    let cost_is : to_z w64 (of_z w64 f.cost) ≡ path_cost d l.entries span r.0 = (let e = ap (λ (x : Found). x.cost) r.2 in let same : to_z w64 (of_z w64 f.cost) ≡ f.cost = omega (arith, ints, above, below, inside, most) in same ∙ e) in
    let text_is = c.as_slice-in-loop-place.ensures.value ∙ c.in_ok-text.ensures ∙ ap (path_value d rows l.key l.entries) (c.as_slice.ensures ∙ ap (λ (x : Found). x.path) r.2) in
    let added = added_is d rows l span values c.add.new.values.items c.as_slice-in-loop-place.result.now r.0 (to_z w64 (of_z w64 f.cost)) c.in_ok-add.ensures text_is cost_is in
    record {
      search = c.next_in.ensures.search;
      span = c.next_in.ensures.span ∙ c.loop-place.invariant.span;
      made = subst (λ ps. IsGathered d rows l span c.add.new.values.items n ps) (sym c.in_ok-found.ensures.rest) (IsGathered-more d rows l span values c.add.new.values.items n r.0 (drop 1 (still_to_come d l.entries s)) gathered room added);
    }

pub returns : goal.returns
returns g c =
    let d = g.D.DataSet.lists c.args.set.now in
    let past = c.loop-place-test.false in
    let none : MOST_PATHS - c.loop-place._place ≡ 0 = omega (arith, past) in
    first_values-all d (g.U.UserWords.rows c.args.user.now) c.args.lattice.now c.args.span.now c.loop-place.values.items (MOST_PATHS - c.loop-place._place) (still_to_come d c.args.lattice.now.entries c.loop-place.search) c.loop-place.invariant.made (ap (λ n. take n (still_to_come d c.args.lattice.now.entries c.loop-place.search)) none ∙ take_none (still_to_come d c.args.lattice.now.entries c.loop-place.search))
