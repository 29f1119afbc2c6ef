use Rattle.std.proofs.Common.{subst, sym}
use Rattle.std.specs.Prelude.{IfSome}
use Rattle.std.specs.BinaryHeap.{heap_items}
use Rattle.std.specs.List.Sorted.{IsPermutation}
use Rattle.nbest.specs.Tails.{IsFamily, IsQueue, families, family_of}
use Rattle.nbest.proofs.QueueLemmas.{IsQueue-empty, IsQueue-pushed, families-alone, none_of}
use Rattle.nbest.proofs.queue.Queue.of.Goals as goal
use Rattle.nbest.proofs.queue.Queue.of.Goals.{in-Some+in_ok-push, in_default}

pub invariant_of-result : goal.invariant_of-result
invariant_of-result c =
    let empty = IsQueue-empty (heap_items c.new-heap.result) c.new-heap.ensures.items c.new-heap.ensures.heap_order in
    elim c.match-tail.branch [
      | in-Some+in_ok-push w ↦ subst (λ h. IsQueue (heap_items h)) (sym w.heap-is) (IsQueue-pushed (heap_items c.new-heap.result) (heap_items w.push.new.self) _ empty (subst (λ r. IfSome r IsFamily) w.in-Some.is c.requires.family) w.in_ok-push.ensures.permutation w.in_ok-push.ensures.heap_order)
      | in_default w ↦ subst (λ h. IsQueue (heap_items h)) (sym w.heap-is) empty
    ]

pub returns : goal.returns
returns c =
    elim c.match-tail.branch [
      | in-Some+in_ok-push w ↦ subst (λ h. IsPermutation (family_of c.args.tail) (families (heap_items h))) (sym w.heap-is) (subst (λ r. IsPermutation (family_of r) (families (heap_items w.push.new.self))) (sym w.in-Some.is) (families-alone (heap_items c.new-heap.result) (heap_items w.push.new.self) _ c.new-heap.ensures.items w.in_ok-push.ensures.permutation))
      | in_default w ↦ subst (λ h. IsPermutation (family_of c.args.tail) (families (heap_items h))) (sym w.heap-is) (subst (λ es. IsPermutation (family_of c.args.tail) (families es)) (sym c.new-heap.ensures.items) (none_of c.args.tail w.in_default.not-Some))
    ]
