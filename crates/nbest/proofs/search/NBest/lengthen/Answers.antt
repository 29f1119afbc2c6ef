use Rattle.std.proofs.Common.{◌≡◌, ◌<◌, true, ap, subst, sym, ◌∙◌, get_or, map, arith, w64, to_z, of_z}
use Rattle.std.specs.Prelude.{OnOk}
use Rattle.std.specs.Arc.{arc_value}
use Rattle.std.proofs.lemmas.Int.{ints}
use Rattle.nbest.specs.Searches.{IsJoinOf, IsSearch, Search, is_open, still_to_come}
use Rattle.nbest.specs.Tails.{begun_by, family_of, no_ending}
use Rattle.nbest.specs.Weights.{weight}
use Rattle.nbest.proofs.FirstLemmas.{open_first}
use Rattle.nbest.proofs.GrowLemmas.{length-part}
use Rattle.nbest.proofs.StepLemmas.{AreLonger-from, IsSearch-grown, still_to_come-grown, still_to_come-kept, weight-grown}
use Rattle.nbest.proofs.search.NBest.lengthen.Goals as goal

pub returns-in_err-siblings-clause-same : goal.returns-in_err-siblings-clause-same
returns-in_err-siblings-clause-same g c =
    let d = g.D.DataSet.lists c.args.set.now in
    let l = c.args.lattice.now in
    let s : Search = record { span = c.self.inside.span; costs = c.self.inside.costs; queue = c.self.inside.queue; cache = c.self.inside.cache } in
    still_to_come-kept d l.entries s c.siblings_at.new.self ∙ ap (still_to_come d l.entries) c.self.view_is

pub longer_than_first-requires-clause-few : goal.longer_than_first-requires-clause-few
longer_than_first-requires-clause-few g c =
    let d = g.D.DataSet.lists c.args.set.now in
    let l = c.args.lattice.now in
    let s : Search = record { span = c.self.inside.span; costs = c.self.inside.costs; queue = c.self.inside.queue; cache = c.self.inside.cache } in
    let search = subst (λ (x : Search). IsSearch d l x) (sym c.self.view_is) c.requires.search in
    let opens = subst (λ (x : Search). is_open l.entries x.span x.queue ≡ true) (sym c.self.view_is) c.requires.open in
    let first = search.tails 0 no_ending (open_first l.entries s.span s.queue opens).0 in
    length-part d l s.span c.requires.well search.span (get_or s.queue 0 no_ending).ordinals first.part

pub returns-in_err-longer-clause-same : goal.returns-in_err-longer-clause-same
returns-in_err-longer-clause-same g c =
    let d = g.D.DataSet.lists c.args.set.now in
    let l = c.args.lattice.now in
    let s : Search = record { span = c.self.inside.span; costs = c.self.inside.costs; queue = c.self.inside.queue; cache = c.self.inside.cache } in
    still_to_come-kept d l.entries s c.siblings_at.new.self ∙ ap (still_to_come d l.entries) c.self.view_is

pub returns-clause-search : goal.returns-clause-search
returns-clause-search g c =
    let d = g.D.DataSet.lists c.args.set.now in
    let l = c.args.lattice.now in
    let s : Search = record { span = c.self.inside.span; costs = c.self.inside.costs; queue = c.self.inside.queue; cache = c.self.inside.cache } in
    let search = subst (λ (x : Search). IsSearch d l x) (sym c.self.view_is) c.requires.search in
    let opens = subst (λ (x : Search). is_open l.entries x.span x.queue ≡ true) (sym c.self.view_is) c.requires.open in
    let join = c.join_of_first-join.result in
    let ss = (arc_value c.in_ok-siblings.siblings).items in
    let is = subst (λ (x : Search). IsJoinOf d l.entries x.span (get_or x.queue 0 no_ending).ordinals join) (sym c.self.view_is) c.join_of_first-join.ensures in
    let are = c.in_ok-siblings.ensures.siblings in
    let above = is.rest.above in
    let below = is.rest.below in
    let rest : to_z w64 (of_z w64 join.rest) ≡ join.rest = omega (arith, ints, above, below) in
    let made = subst (λ z. family_of c.in_ok-longer.longer ≡ map (begun_by (get_or s.queue 0 no_ending).ordinals z) ss) rest c.in_ok-longer.ensures.all in
    let longer = AreLonger-from d l s join ss (family_of c.in_ok-longer.longer) is.is are made in
    let cache = c.siblings_at.new.self in
    let kept = c.in_ok-siblings.ensures.kept in
    IsSearch-grown d l s c.requires.well search opens (family_of c.in_ok-longer.longer) c.replace_first.new.self longer cache kept c.replace_first.result c.replace_first.ensures.ok c.replace_first.ensures.err

pub returns-clause-same : goal.returns-clause-same
returns-clause-same g c =
    let d = g.D.DataSet.lists c.args.set.now in
    let l = c.args.lattice.now in
    let s : Search = record { span = c.self.inside.span; costs = c.self.inside.costs; queue = c.self.inside.queue; cache = c.self.inside.cache } in
    let search = subst (λ (x : Search). IsSearch d l x) (sym c.self.view_is) c.requires.search in
    let opens = subst (λ (x : Search). is_open l.entries x.span x.queue ≡ true) (sym c.self.view_is) c.requires.open in
    let join = c.join_of_first-join.result in
    let ss = (arc_value c.in_ok-siblings.siblings).items in
    let is = subst (λ (x : Search). IsJoinOf d l.entries x.span (get_or x.queue 0 no_ending).ordinals join) (sym c.self.view_is) c.join_of_first-join.ensures in
    let are = c.in_ok-siblings.ensures.siblings in
    let above = is.rest.above in
    let below = is.rest.below in
    let rest : to_z w64 (of_z w64 join.rest) ≡ join.rest = omega (arith, ints, above, below) in
    let made = subst (λ z. family_of c.in_ok-longer.longer ≡ map (begun_by (get_or s.queue 0 no_ending).ordinals z) ss) rest c.in_ok-longer.ensures.all in
    let longer = AreLonger-from d l s join ss (family_of c.in_ok-longer.longer) is.is are made in
    let cache = c.siblings_at.new.self in
    still_to_come-grown d l s c.requires.well search opens (family_of c.in_ok-longer.longer) c.replace_first.new.self longer cache c.replace_first.result c.replace_first.ensures.ok c.replace_first.ensures.err ∙ ap (still_to_come d l.entries) c.self.view_is

pub returns-clause-less : goal.returns-clause-less
returns-clause-less g c =
    let d = g.D.DataSet.lists c.args.set.now in
    let l = c.args.lattice.now in
    let s : Search = record { span = c.self.inside.span; costs = c.self.inside.costs; queue = c.self.inside.queue; cache = c.self.inside.cache } in
    let search = subst (λ (x : Search). IsSearch d l x) (sym c.self.view_is) c.requires.search in
    let opens = subst (λ (x : Search). is_open l.entries x.span x.queue ≡ true) (sym c.self.view_is) c.requires.open in
    let join = c.join_of_first-join.result in
    let ss = (arc_value c.in_ok-siblings.siblings).items in
    let is = subst (λ (x : Search). IsJoinOf d l.entries x.span (get_or x.queue 0 no_ending).ordinals join) (sym c.self.view_is) c.join_of_first-join.ensures in
    let are = c.in_ok-siblings.ensures.siblings in
    let above = is.rest.above in
    let below = is.rest.below in
    let rest : to_z w64 (of_z w64 join.rest) ≡ join.rest = omega (arith, ints, above, below) in
    let made = subst (λ z. family_of c.in_ok-longer.longer ≡ map (begun_by (get_or s.queue 0 no_ending).ordinals z) ss) rest c.in_ok-longer.ensures.all in
    let longer = AreLonger-from d l s join ss (family_of c.in_ok-longer.longer) is.is are made in
    let cache = c.siblings_at.new.self in
    subst (λ (x : Search). OnOk c.replace_first.result (weight l c.self.inside.span c.replace_first.new.self < weight l x.span x.queue)) c.self.view_is (weight-grown d l s c.requires.well search opens (family_of c.in_ok-longer.longer) c.replace_first.new.self longer cache c.replace_first.result c.replace_first.ensures.ok)
