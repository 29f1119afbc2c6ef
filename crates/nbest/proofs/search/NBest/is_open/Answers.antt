use Rattle.std.proofs.Common.{◌≡◌, ap, subst, sym, ◌∙◌, not, eqb}
use Rattle.std.specs.List.{All}
use Rattle.nbest.specs.Searches.{AreThere, Search, is_open, lacks_entries}
use Rattle.nbest.specs.Tails.{Ending, ending, no_ending}
use Rattle.nbest.proofs.FirstLemmas.{begin_of-first, is_open-first}
use Rattle.nbest.proofs.search.NBest.is_open.Goals as goal

pub returns-in-Some : goal.returns-in-Some
returns-in-Some c =
    let es = c.args.entries.now in
    let span = c.self.inside.span in
    let e = ending c.in-Some.first.now.0 in
    let first = c.in-Some.ensures.first in
    let are : All (λ (x : Ending). AreThere es x.ordinals) c.self.inside.queue = subst (λ (s : Search). All (λ (x : Ending). AreThere es x.ordinals) s.queue) (sym c.self.view_is) c.requires in
    let there : AreThere es e.ordinals = subst (λ (x : Ending). AreThere es x.ordinals) first.stands (are 0 no_ending first.some) in
    let same : not (eqb c.begin_of.result span.begin) ≡ lacks_entries es span e = ap (λ n. not (eqb n span.begin)) (c.begin_of.ensures ∙ sym (begin_of-first es span.end e.ordinals there.some)) in
    subst (λ (s : Search). not (eqb c.begin_of.result span.begin) ≡ is_open es s.span s.queue) c.self.view_is (same ∙ sym (is_open-first es span c.self.inside.queue e first))
