use Rattle.std.proofs.Common.{subst}
use Rattle.conversion_meaning.specs.Order.{IsBefore}
use Rattle.conversion_meaning.specs.Paths.{IsPathOver}
use Rattle.conversion_meaning.proofs.BestLemmas.{AreForward-from_well}
use Rattle.conversion_meaning.proofs.InOrderLemmas.{Among-from_contains, Rises-from_pairs, paths_in_order-one}
use Rattle.conversion_meaning.proofs.Lists.{place_of}
use Rattle.conversion_meaning.proofs.in_order.in_order_is_one.Goals as goal

pub returns : goal.returns
returns c = λ d l span paths well each only rises.
    paths_in_order-one d l.entries span (AreForward-from_well d l well) paths (Rises-from_pairs (IsBefore d l.entries span) paths rises) (λ p joined. Among-from_contains paths p (each p joined)) (λ p h. (let r = place_of p paths h in subst (λ q. IsPathOver l.entries span q) (r.2 p) (only r.0 p r.1)))
