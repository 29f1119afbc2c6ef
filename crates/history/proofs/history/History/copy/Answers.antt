use Rattle.std.proofs.Common.{◌≡◌, List, ap, subst, sym, ◌∙◌}
use Rattle.std.specs.Prelude.{reverse}
use Rattle.std.specs.Iterator.Adapters.{rev_source}
use Rattle.mz_base.specs.declared.lattice.Pair.{Pair}
use Rattle.session_meaning.specs.History.{learn, with_learned}
use Rattle.session_meaning.specs.HistoryLaws.{IsHistory}
use Rattle.session_meaning.proofs.HistoryLemmas.{relearned}
use Rattle.history.specs.Pairs.{pair_with, pairs_of}
use Rattle.history.specs.declared.kept.Kept.{Kept}
use Rattle.history.proofs.PutLemmas.{cache-history, copied-more, kept-is_pair}
use Rattle.history.proofs.history.History.copy.Goals as goal

pub loop-kept-preserved : goal.loop-kept-preserved
loop-kept-preserved c =
    let key = ap (λ key. with_learned c.loop-kept.copy (pair_with key c.as_slice-in-loop-kept.result.now)) c.as_slice.ensures.value in
    let value = ap (λ value. with_learned c.loop-kept.copy (pair_with c.in-Some.kept.now.key.items value)) c.as_slice-in-loop-kept.ensures.value in
    let learned = c.in_ok-learn.ensures.ok ∙ (key ∙ value) in
    copied-more c.loop-kept.copy c.learn.new.self _ (rev_source c.loop-kept.kept-iterator) (rev_source c.next.new.self) (c.in-Some.kept.now, c.in-Some.field-0-1.now) c.in-Some.ensures.steps learned c.loop-kept.invariant

pub returns : goal.returns
returns c =
    let history = subst (λ (pairs : List Pair). IsHistory pairs) c.self.view_is (cache-history _ kept-is_pair c.self.inside.kept c.len-count.ensures.valid c.self.invariant) in
    sym (ap (λ (entries : List (Kept × Unit {0})). learn c.loop-kept.copy (reverse (pairs_of entries))) c.in-None.ensures.steps.0)
    ∙ (c.loop-kept.invariant ∙ relearned c.args.self.now history)
