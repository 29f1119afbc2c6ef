use Rattle.std.proofs.Common.{◌∙◌, ◌∷◌, sym, ap, rules}
use Rattle.std.specs.List.Sorted.{IsPermutation}
use Rattle.mz_base.specs.declared.lattice.Candidate.{Candidate}
use Rattle.rewrite_rules.proofs.SeenLemmas.{AreValues-new}
use Rattle.rewrite_rules.proofs.candidates.add_unseen.Goals as goal

pub returns-in_ok-push-clause-seen : goal.returns-in_ok-push-clause-seen
returns-in_ok-push-clause-seen c =
    let key = c.in_ok-from_slice.field-0 in
    let keys = c.args.seen.now.keys in
    let moved : IsPermutation (key ∷ keys) c.insert.new.self.keys = search rules in
    let is = ap (λ (x : Candidate). x.value) c.in_ok-added.ensures ∙ sym c.in_ok-from_slice.ensures.items in
    rw c.in_ok-push.ensures.items (AreValues-new keys c.insert.new.self.keys c.args.list.now.items key c.in_ok-added.field-0 is moved c.requires)
