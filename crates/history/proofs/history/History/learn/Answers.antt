use Rattle.std.proofs.Common.{◌≡◌, List, ap, ◌∙◌}
use Rattle.lru.specs.LruCache.{LruCache}
use Rattle.mz_base.specs.declared.lattice.Pair.{Pair}
use Rattle.session_meaning.specs.History.{with_learned}
use Rattle.history.specs.Pairs.{pair_of, pairs_of}
use Rattle.history.specs.declared.kept.Kept.{Kept}
use Rattle.history.proofs.PutLemmas.{kept-is_pair, put-learned}
use Rattle.history.proofs.history.History.learn.Goals as goal

pub returns-clause-ok : goal.returns-clause-ok
returns-clause-ok c =
    let learned = put-learned _ kept-is_pair c.in_ok-kept.kept c.self.inside.kept c.len-held.ensures.valid c.self.invariant in
    ap (λ (cache : LruCache Kept (Unit {0})). pairs_of cache.entries) c.in_ok-put.ensures.entries
    ∙ (learned
    ∙ (ap (λ (pairs : List Pair). with_learned pairs (pair_of c.in_ok-kept.kept)) c.self.view_is ∙ ap (λ (pair : Pair). with_learned c.args.self.now pair) c.in_ok-kept.ensures))
