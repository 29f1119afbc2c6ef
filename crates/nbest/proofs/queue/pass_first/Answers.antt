use Rattle.std.proofs.Common.{◌≡◌, refl, rules, subst, [], ◌∷◌, List}
use Rattle.std.specs.BinaryHeap.{heap_items}
use Rattle.std.specs.declared.cmp.Reverse.{Reverse}
use Rattle.nbest.specs.declared.tail.Tail.{Tail}
use Rattle.nbest.specs.Tails.{ending, family}
use Rattle.nbest.proofs.QueueLemmas.{IsFamily-next, IsHeld, IsQueue-left, IsQueue-replaced, first_family, loses_alone, loses_first}
use Rattle.nbest.proofs.queue.pass_first.Goals as goal

pub returns-then-not-pass_to_next-clause-queue : goal.returns-then-not-pass_to_next-clause-queue
returns-then-not-pass_to_next-clause-queue c =
    let old = heap_items c.args.heap.now in
    let top = c.in-Some.top.top in
    let rest : List (Reverse Tail) = c.in-Some.top.heap.now.data.items in
    let held : IsHeld old rest top = record { first = c.in-Some.ensures.top; same = c.in-Some.ensures.permutation } in
    let made = IsQueue-left old rest top held c.requires.queue _ c.pop.ensures.permutation (c.pop.ensures.heap_order (c.in-Some.ensures.heap_order c.requires.queue.heap)) in
    search rules

pub returns-then-not-pass_to_next-clause-rest : goal.returns-then-not-pass_to_next-clause-rest
returns-then-not-pass_to_next-clause-rest c =
    let old = heap_items c.args.heap.now in
    let top = c.in-Some.top.top in
    let rest : List (Reverse Tail) = c.in-Some.top.heap.now.data.items in
    let held : IsHeld old rest top = record { first = c.in-Some.ensures.top; same = c.in-Some.ensures.permutation } in
    let alone = c.pass_to_next.ensures.last c.if-not-pass_to_next.true in
    let made = loses_alone old rest top held c.requires.queue _ c.pop.ensures.permutation (subst (λ (t : Reverse Tail). family t.0 ≡ ending t.0 ∷ []) c.deref_mut.ensures.value alone) in
    search rules

pub returns-else-not-pass_to_next-clause-queue : goal.returns-else-not-pass_to_next-clause-queue
returns-else-not-pass_to_next-clause-queue c =
    let old = heap_items c.args.heap.now in
    let top = c.in-Some.top.top in
    let rest : List (Reverse Tail) = c.in-Some.top.heap.now.data.items in
    let next = c.pass_to_next.new.tail in
    let held : IsHeld old rest top = record { first = c.in-Some.ensures.top; same = c.in-Some.ensures.permutation } in
    let splits = subst (λ (t : Reverse Tail). family t.0 ≡ ending t.0 ∷ family next) c.deref_mut.ensures.value (c.pass_to_next.ensures.next c.if-not-pass_to_next.false) in
    let is = IsFamily-next top.0 next (first_family old rest top held c.requires.queue) splits c.pass_to_next.ensures.some in
    let made = IsQueue-replaced old rest top held c.requires.queue _ _ is (c.drop-top.ensures.permutation (search rules)) (c.drop-top.ensures.heap_order (search rules) (c.in-Some.ensures.heap_order c.requires.queue.heap)) in
    search rules

pub returns-else-not-pass_to_next-clause-rest : goal.returns-else-not-pass_to_next-clause-rest
returns-else-not-pass_to_next-clause-rest c =
    let old = heap_items c.args.heap.now in
    let top = c.in-Some.top.top in
    let rest : List (Reverse Tail) = c.in-Some.top.heap.now.data.items in
    let next = c.pass_to_next.new.tail in
    let held : IsHeld old rest top = record { first = c.in-Some.ensures.top; same = c.in-Some.ensures.permutation } in
    let splits = subst (λ (t : Reverse Tail). family t.0 ≡ ending t.0 ∷ family next) c.deref_mut.ensures.value (c.pass_to_next.ensures.next c.if-not-pass_to_next.false) in
    let made = loses_first old rest top held c.requires.queue next _ _ refl splits (c.drop-top.ensures.permutation (search rules)) in
    search rules
