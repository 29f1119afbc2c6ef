use Rattle.std.proofs.Common.{◌≡◌, sym, ap, ◌∙◌, ◌+◌, ◌++◌, [], ◌∷◌, length, arith}
use Rattle.std.specs.Arc.{arc_value}
use Rattle.std.specs.Cmp.Lexicographic.{slice_cmp}
use Rattle.std.specs.Ordering.{nat_cmp, ordering_then}
use Rattle.std.specs.declared.cmp.Ordering.TheVariants.{Less, Greater}
use Rattle.nbest.specs.Chains.{ordinals_after}
use Rattle.nbest.proofs.ChainLemmas.{cmp-longer, cmp-same, cmp-shorter, length-push}
use Rattle.nbest.proofs.chain.Chain.+compare.Goals as goal

pub returns-then-self-other : goal.returns-then-self-other
returns-then-self-other t c =
    let xs = c.args.self.now in
    let ys = arc_value c.in-Some.after in
    let y = c.other.inside.first in
    let is : ys ++ y ∷ [] ≡ c.args.other.now = sym (ap (λ after. ordinals_after after ++ y ∷ []) c.in-Some.is) ∙ c.other.view_is in
    let long : c.other.inside.len ≡ length ys + 1 = c.other.invariant ∙ ap (λ after. length (ordinals_after after) + 1) c.in-Some.is in
    let own : length xs ≡ c.self.inside.len = sym (ap length c.self.view_is) ∙ length-push (ordinals_after c.self.inside.after) c.self.inside.first ∙ sym c.self.invariant in
    let less = c.if-self-other.true in
    let inside = c.compare.ensures ∙ ap (slice_cmp nat_cmp xs) c.deref.ensures in
    c.then.ensures ∙ ap (λ o. ordering_then o Less) inside ∙ sym (cmp-shorter xs ys y (omega (arith, long, own, less))) ∙ ap (slice_cmp nat_cmp xs) is

pub returns-then-other-self : goal.returns-then-other-self
returns-then-other-self t c =
    let xs = arc_value c.in-Some-after.after in
    let ys = c.args.other.now in
    let x = c.self.inside.first in
    let is : xs ++ x ∷ [] ≡ c.args.self.now = sym (ap (λ after. ordinals_after after ++ x ∷ []) c.in-Some-after.is) ∙ c.self.view_is in
    let long : c.self.inside.len ≡ length xs + 1 = c.self.invariant ∙ ap (λ after. length (ordinals_after after) + 1) c.in-Some-after.is in
    let own : length ys ≡ c.other.inside.len = sym (ap length c.other.view_is) ∙ length-push (ordinals_after c.other.inside.after) c.other.inside.first ∙ sym c.other.invariant in
    let less = c.if-other-self.true in
    let inside = c.compare-in-Some-after.ensures ∙ ap (λ zs. slice_cmp nat_cmp zs ys) c.deref-in-Some-after.ensures in
    c.then-in-Some-after.ensures ∙ ap (λ o. ordering_then o Greater) inside ∙ sym (cmp-longer xs ys x (omega (arith, long, own, less))) ∙ ap (λ zs. slice_cmp nat_cmp zs ys) is

pub returns-in-Some-Some : goal.returns-in-Some-Some
returns-in-Some-Some t c =
    let xs = arc_value c.in-Some-Some.mine in
    let ys = arc_value c.in-Some-Some.theirs in
    let x = c.self.inside.first in
    let y = c.other.inside.first in
    let own : xs ++ x ∷ [] ≡ c.args.self.now = sym (ap (λ after. ordinals_after after ++ x ∷ []) c.in-Some-Some.is-0) ∙ c.self.view_is in
    let others : ys ++ y ∷ [] ≡ c.args.other.now = sym (ap (λ after. ordinals_after after ++ y ∷ []) c.in-Some-Some.is-1) ∙ c.other.view_is in
    let m : c.self.inside.len ≡ length xs + 1 = c.self.invariant ∙ ap (λ after. length (ordinals_after after) + 1) c.in-Some-Some.is-0 in
    let n : c.other.inside.len ≡ length ys + 1 = c.other.invariant ∙ ap (λ after. length (ordinals_after after) + 1) c.in-Some-Some.is-1 in
    let low = c.if-self-other.false in
    let high = c.if-other-self.false in
    let inside = c.compare-in-Some-Some.ensures ∙ (ap (λ zs. slice_cmp nat_cmp zs c.deref-in-Some-Some-2.result.now) c.deref-in-Some-Some.ensures ∙ ap (slice_cmp nat_cmp xs) c.deref-in-Some-Some-2.ensures) in
    c.then-in-Some-Some.ensures ∙ ap (λ o. ordering_then o c.cmp.result) inside ∙ ap (ordering_then (slice_cmp nat_cmp xs ys)) c.cmp.ensures ∙ sym (cmp-same xs ys x y (omega (arith, m, n, low, high))) ∙ ap (λ zs. slice_cmp nat_cmp zs (ys ++ y ∷ [])) own ∙ ap (slice_cmp nat_cmp c.args.self.now) others
