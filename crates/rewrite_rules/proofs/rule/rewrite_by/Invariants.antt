use Rattle.std.proofs.Common.{◌≡◌, drop}
use Rattle.conversion_meaning.specs.Rules.{rewritten_by}
use Rattle.rewrite_rules.specs.Newest.{asked}
use Rattle.rewrite_rules.proofs.rule.rewrite_by.Given as goal

-- the list so far, by the rules that are left, is the list by all
abbrev pub invariant-loop-rule : goal.invariant-loop-rule
invariant-loop-rule g l =
    rewritten_by (drop l.rule-index l.numbers) (asked (g.D.DataSet.lists l.ask.set.now) l.ask.history.now l.ask.key.now) l.made.items ≡ rewritten_by l.numbers (asked (g.D.DataSet.lists l.ask.set.now) l.ask.history.now l.ask.key.now) l.initial.made.items
