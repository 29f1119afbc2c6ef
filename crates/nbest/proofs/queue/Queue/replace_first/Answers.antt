use Rattle.std.proofs.Common.{subst, sym, ap, ◌∙◌, Some}
use Rattle.std.specs.Prelude.{IfSome}
use Rattle.std.specs.BinaryHeap.{heap_items}
use Rattle.nbest.specs.Tails.{IsFamily, Replaces, families, family_of}
use Rattle.nbest.proofs.QueueLemmas.{IsQueue-pushed, Replaces-pushed}
use Rattle.nbest.proofs.queue.Queue.replace_first.Goals as goal

pub invariant_of-self-in-Continue-branch-2 : goal.invariant_of-self-in-Continue-branch-2
invariant_of-self-in-Continue-branch-2 c =
    let family : IsFamily c.in-Some.tail = subst (λ r. IfSome r IsFamily) c.in-Some.is c.requires.family in
    IsQueue-pushed (heap_items c.pass_first.new.heap) (heap_items c.push.new.self) _ c.pass_first.ensures.queue family c.in_ok-push.ensures.permutation c.in_ok-push.ensures.heap_order

pub returns-in_ok-push-clause-ok : goal.returns-in_ok-push-clause-ok
returns-in_ok-push-clause-ok c =
    let old = ap families c.reserve.ensures.items ∙ c.self.view_is in
    let made = Replaces-pushed (heap_items c.reserve.new.self) (heap_items c.pass_first.new.heap) (heap_items c.push.new.self) _ c.pass_first.ensures.rest c.in_ok-push.ensures.permutation in
    subst (λ r. Replaces c.args.self.now (family_of r) (families (heap_items c.push.new.self))) (sym c.in-Some.is) (subst (λ q. Replaces q (family_of (Some c.in-Some.tail)) (families (heap_items c.push.new.self))) old made)
