use Rattle.std.proofs.Common.{◌≡◌, List, ◌++◌, append-nil, ap, subst, sym, ◌∙◌}
use Rattle.mz_base.specs.declared.lattice.Pair.{Pair}
use Rattle.session_meaning.specs.HistoryLaws.{IsHistory}
use Rattle.history.specs.Pairs.{pairs_of}
use Rattle.history.specs.declared.kept.Kept.{Kept}
use Rattle.history.proofs.PutLemmas.{cache-history, kept-is_pair}
use Rattle.history.proofs.history.History.pairs.Goals as goal

pub returns-clause-history : goal.returns-clause-history
returns-clause-history c =
    let items = c.loop-kept.pairs.items in
    let history = subst (λ (pairs : List Pair). IsHistory pairs) c.self.view_is (cache-history _ kept-is_pair c.self.inside.kept c.len.ensures.valid c.self.invariant) in
    let all : items ≡ c.args.self.now = sym (append-nil items) ∙ (ap (λ (entries : List (Kept × Unit {0})). items ++ pairs_of entries) (sym c.in-None.ensures.steps.0) ∙ c.loop-kept.invariant) in
    subst (λ (pairs : List Pair). IsHistory pairs) (sym all) history
