use Rattle.std.proofs.Common.{ℕ, ◌<◌, ◌≤◌, length, get_or}
use Rattle.mz_base.specs.declared.romaji.Rule.{Rule}
use Rattle.romaji_table.proofs.index.most_typed.Given as goal

-- no input so far has more characters
abbrev pub invariant-loop-rule : goal.invariant-loop-rule
invariant-loop-rule l = (k : ℕ) (d : Rule) → k < l.rule-index → length (get_or l.rules k d).input ≤ l.most
