use Rattle.std.proofs.Common.{◌≡◌, ◌∙◌, ◌<◌, true, sym, ap, subst, List, length, eqb, arith, get_or}
use Rattle.std.specs.Prelude.{Option, ◌&&◌}
use Rattle.std.proofs.lemmas.Bool.Decides.{nat_tests}
use Rattle.nbest.specs.Lists.{Listed}
use Rattle.nbest.proofs.CacheLemmas.{Stands-at}
use Rattle.nbest.proofs.TailLemmas.{both}
use Rattle.nbest.proofs.cache.Cache.found.Goals as goal

pub returns : goal.returns
returns c =
    let k = c.in-Some-Some.kept in
    let x = c.in-Some-Some.field-0.now in
    let lookup = c.in-Some-Some.ensures.lookup in
    let items : c.as_slice.result.now ≡ c.args.self.now = c.as_slice.ensures.value ∙ c.self.view_is in
    let low : c.args.slot < length c.as_slice.result.now = grind (arith, nat_tests, lookup.0) in
    let inside : c.args.slot < length c.args.self.now = subst (λ (xs : List (Option Listed)). c.args.slot < length xs) items low in
    let is : x ≡ get_or c.args.self.now c.args.slot x = lookup.1 ∙ ap (λ (xs : List (Option Listed)). get_or xs c.args.slot x) items in
    let h : (eqb k.begin c.args.join.now.begin && eqb k.lid c.args.join.now.lid) ≡ true = sym c.is_for.ensures ∙ c.if-not-is_for.false in
    let t = both (eqb k.begin c.args.join.now.begin) (eqb k.lid c.args.join.now.lid) h in
    Stands-at c.args.self.now c.args.slot c.args.join.now.begin c.args.join.now.lid _ x k inside is c.in-Some-Some.field-0-is (grind (arith, nat_tests, t.0)) (grind (arith, nat_tests, t.1)) c.in_ok-siblings.ensures
