use Rattle.std.proofs.Common.{◌≡◌, ◌≤◌, subst, sym, length, map}
use Rattle.std.specs.Prelude.{IfOk}
use Rattle.std.specs.Arc.{arc_value}
use Rattle.mz_base.specs.declared.lattice.TheConstants.{MOST_KEY}
use Rattle.nbest.specs.Tails.{Ending, begun_by, family_of}
use Rattle.nbest.proofs.SignedLemmas.{kept}
use Rattle.nbest.proofs.search.longer_than_first.Goals as goal

pub begun_by_first-requires-clause-few : goal.begun_by_first-requires-clause-few
begun_by_first-requires-clause-few c =
    subst (λ (e : Ending). length e.ordinals ≤ MOST_KEY) c.in-Some.ensures.first.stands c.requires.few

pub returns-clause-all : goal.returns-clause-all
returns-clause-all c =
    let made = subst (λ z. IfOk c.begun_by_first.result (λ longer. family_of longer ≡ map (begun_by c.in-Some.first.now.0.ordinals z) (arc_value c.args.siblings).items)) (kept c.args.rest c.ranges.rest.sfits) c.begun_by_first.ensures.all in
    subst (λ (e : Ending). IfOk c.begun_by_first.result (λ longer. family_of longer ≡ map (begun_by e.ordinals c.args.rest) (arc_value c.args.siblings).items)) (sym c.in-Some.ensures.first.stands) made
