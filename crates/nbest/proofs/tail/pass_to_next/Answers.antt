use Rattle.std.proofs.Common.{◌≡◌, ◌∙◌, ◌<◌, ◌+◌, ◌∷◌, ap, sym, subst, rules, length, get_or, map, drop, arith, w64, to_z, of_z, List}
use Rattle.std.specs.Prelude.{◌+ℤ◌}
use Rattle.std.proofs.lemmas.Bool.Decides.{nat_tests}
use Rattle.std.proofs.lemmas.Int.{ints}
use Rattle.nbest.specs.declared.tail.Sibling.{Sibling}
use Rattle.nbest.specs.Tails.{begun_by, but_first, ending, siblings_of}
use Rattle.nbest.proofs.FamilyLemmas.{items-same, next_within, siblings-next}
use Rattle.nbest.proofs.SignedLemmas.{kept}
use Rattle.nbest.proofs.tail.pass_to_next.Goals as goal

pub overflow_add-tail : goal.overflow_add-tail
overflow_add-tail c =
    let t = c.args.tail.now in
    let s = c.in-Some.next.now in
    let a : to_z w64 (of_z w64 s.added) ≡ s.added = search (rules, kept) in
    let b : to_z w64 (of_z w64 t.rest) ≡ t.rest = search (rules, kept) in
    let lookup = c.in-Some.ensures.lookup in
    let items = c.as_slice.ensures.value ∙ items-same _ _ c.deref.ensures in
    let low : t.next < length c.as_slice.result.now = grind (arith, nat_tests, lookup.0) in
    let inside : t.next < length (siblings_of t) = subst (λ (xs : List Sibling). t.next < length xs) items low in
    let is : get_or (siblings_of t) t.next s ≡ s = sym (lookup.1 ∙ ap (λ (xs : List Sibling). get_or xs t.next s) items) in
    let within = next_within t s c.requires inside is in
    let above = within.above in
    let below = within.below in
    search (arith, ints, a, b, above, below)

pub returns-clause-next : goal.returns-clause-next
returns-clause-next c =
    let t = c.args.tail.now in
    let s = c.in-Some.next.now in
    let ss = siblings_of t in
    let os = t.ordinals in
    let a : to_z w64 (of_z w64 s.added) ≡ s.added = search (rules, kept) in
    let b : to_z w64 (of_z w64 t.rest) ≡ t.rest = search (rules, kept) in
    let lookup = c.in-Some.ensures.lookup in
    let items = c.as_slice.ensures.value ∙ items-same _ _ c.deref.ensures in
    let low : t.next < length c.as_slice.result.now = grind (arith, nat_tests, lookup.0) in
    let inside : t.next < length ss = subst (λ (xs : List Sibling). t.next < length xs) items low in
    let is : get_or ss t.next s ≡ s = sym (lookup.1 ∙ ap (λ (xs : List Sibling). get_or xs t.next s) items) in
    let within = next_within t s c.requires inside is in
    let above = within.above in
    let below = within.below in
    let sum : to_z w64 (of_z w64 (to_z w64 (of_z w64 s.added) +ℤ to_z w64 (of_z w64 t.rest))) ≡ s.added +ℤ t.rest = omega (arith, ints, a, b, above, below) in
    let rest = map (begun_by (but_first c.set_first.new.self) t.rest) (drop (t.next + 1) ss) in
    λ _. ap (λ xs. ending t ∷ xs) (siblings-next os t.rest ss t.next s inside is ∙ (ap (λ xs. record { estimate = s.added +ℤ t.rest; ordinals = xs } ∷ map (begun_by (but_first xs) t.rest) (drop (t.next + 1) ss)) (sym c.set_first.ensures) ∙ ap (λ z. record { estimate = z; ordinals = c.set_first.new.self } ∷ rest) (sym sum)))
