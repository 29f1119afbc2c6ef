use Rattle.std.proofs.Common.{◌≡◌, drop}
use Rattle.conversion_meaning.specs.Rules.{with_values}
use Rattle.rewrite_rules.specs.Seen.{AreValues}
use Rattle.rewrite_rules.proofs.candidates.add_many.Given as goal

-- the values so far, and then those that are left, give what all give; the set has the list's values
abbrev pub invariant-loop-value : goal.invariant-loop-value
invariant-loop-value l = record {
  given : with_values l.list.items (drop l.value-index l.values) ≡ with_values l.initial.list.items l.values;
  seen : AreValues l.seen.keys l.list.items;
}
