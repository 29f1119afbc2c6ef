use Rattle.std.proofs.Common.{rules, ◌≡◌, ◌∙◌, ◌<◌, List, subst, ap, sym, refl, length, get_or, arith, w64, to_z, of_z}
use Rattle.std.specs.Prelude.{◌*◌, ◌+ℤ◌}
use Rattle.std.specs.Arc.{arc_value}
use Rattle.std.proofs.lemmas.Int.{ints}
use Rattle.conversion_meaning.specs.Bounds.{IsWithin}
use Rattle.viterbi.specs.Table.{most_reached}
use Rattle.nbest.specs.Chains.{ordinals_of}
use Rattle.nbest.specs.declared.tail.Sibling.{Sibling}
use Rattle.nbest.proofs.FamilyLemmas.{IsFamily-begun, family-begun, items-same}
use Rattle.nbest.proofs.SignedLemmas.{kept}
use Rattle.nbest.proofs.grow.begun_by_first.Goals as goal

pub returns-clause-family : goal.returns-clause-family
returns-clause-family c =
    let s = c.in-Some.first.now in
    let ss = (arc_value c.args.siblings).items in
    let a : to_z w64 (of_z w64 s.added) ≡ s.added = search (rules, kept) in
    let b : to_z w64 (of_z w64 c.args.rest) ≡ c.args.rest = kept c.args.rest c.ranges.rest.sfits in
    let items = c.as_slice.ensures.value ∙ items-same _ _ c.deref.ensures in
    let i = c.in-Some.ensures.item in
    let some : 0 < length ss = subst (λ (xs : List Sibling). 0 < length xs) items i.3.0 in
    let is : get_or ss 0 s ≡ s = sym (i.1 ∙ ap (λ (xs : List Sibling). get_or xs 0 s) items) in
    let first : IsWithin (2 * most_reached) s.added = subst (λ (x : Sibling). IsWithin (2 * most_reached) x.added) is (c.requires.small 0 s some) in
    let above = first.above in
    let below = first.below in
    let low = c.requires.rest.above in
    let high = c.requires.rest.below in
    let sum : to_z w64 (of_z w64 (to_z w64 (of_z w64 s.added) +ℤ to_z w64 (of_z w64 c.args.rest))) ≡ s.added +ℤ c.args.rest = omega (arith, ints, a, b, above, below, low, high) in
    IsFamily-begun (ordinals_of c.args.tail) c.args.rest _ s some is sum c.in_ok-ordinals.ensures refl b c.requires.order c.requires.small c.requires.rest

pub returns-clause-all : goal.returns-clause-all
returns-clause-all c =
    let s = c.in-Some.first.now in
    let ss = (arc_value c.args.siblings).items in
    let a : to_z w64 (of_z w64 s.added) ≡ s.added = search (rules, kept) in
    let b : to_z w64 (of_z w64 c.args.rest) ≡ c.args.rest = kept c.args.rest c.ranges.rest.sfits in
    let items = c.as_slice.ensures.value ∙ items-same _ _ c.deref.ensures in
    let i = c.in-Some.ensures.item in
    let some : 0 < length ss = subst (λ (xs : List Sibling). 0 < length xs) items i.3.0 in
    let is : get_or ss 0 s ≡ s = sym (i.1 ∙ ap (λ (xs : List Sibling). get_or xs 0 s) items) in
    let first : IsWithin (2 * most_reached) s.added = subst (λ (x : Sibling). IsWithin (2 * most_reached) x.added) is (c.requires.small 0 s some) in
    let above = first.above in
    let below = first.below in
    let low = c.requires.rest.above in
    let high = c.requires.rest.below in
    let sum : to_z w64 (of_z w64 (to_z w64 (of_z w64 s.added) +ℤ to_z w64 (of_z w64 c.args.rest))) ≡ s.added +ℤ c.args.rest = omega (arith, ints, a, b, above, below, low, high) in
    family-begun (ordinals_of c.args.tail) c.args.rest (record { estimate = to_z w64 (of_z w64 (to_z w64 (of_z w64 s.added) +ℤ to_z w64 (of_z w64 c.args.rest))); ordinals = c.in_ok-ordinals.ordinals; siblings = c.args.siblings; next = 1; rest = to_z w64 (of_z w64 c.args.rest) }) s some is sum c.in_ok-ordinals.ensures refl b
