use Rattle.std.proofs.Common.{subst}
use Rattle.std.specs.Prelude.{IfSome}
use Rattle.std.specs.BinaryHeap.{heap_items}
use Rattle.nbest.specs.Tails.{IsFirstOf, ending}
use Rattle.nbest.proofs.QueueLemmas.{IfSome-peeked}
use Rattle.nbest.proofs.queue.Queue.first.Goals as goal

pub returns-clause-first : goal.returns-clause-first
returns-clause-first c =
    subst (λ q. IfSome c.peek.result (λ tail. IsFirstOf q (ending tail.now.0))) c.self.view_is (IfSome-peeked (heap_items c.self.inside.heap) c.peek.result c.peek.ensures.item.3 c.peek.ensures.lookup c.peek.ensures.greatest c.self.invariant)
