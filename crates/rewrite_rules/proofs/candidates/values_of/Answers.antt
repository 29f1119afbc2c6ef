use Rattle.std.proofs.Common.{◌∙◌, sym, take}
use Rattle.std.proofs.lemmas.List.{take_more}
use Rattle.rewrite_rules.proofs.SeenLemmas.{AreValues-put}
use Rattle.rewrite_rules.proofs.candidates.values_of.Goals as goal

pub loop-candidate-preserved : goal.loop-candidate-preserved
loop-candidate-preserved c =
    let list = c.args.list.now in
    let at = c.loop-candidate.candidate-index in
    let candidate = c.candidate-item.result in
    rw (take_more list at candidate c.loop-candidate-test.true, ← c.candidate-item.is) (AreValues-put c.loop-candidate.seen.keys c.insert.new.self.keys (take at list) c.in_ok-value.value candidate c.in_ok-insert.field-0 (sym (c.in_ok-value.ensures.items ∙ c.as_chars.ensures)) c.in_ok-insert.ensures.added c.in_ok-insert.ensures.keys c.loop-candidate.invariant)
