use Rattle.std.proofs.Common.{◌≡◌, ◌++◌, drop}
use Rattle.conversion_meaning.specs.Rules.{wide_values}
use Rattle.rewrite_rules.proofs.wide.wide_values.Given as goal

-- the values so far, and those of what is left, are those of all
abbrev pub invariant-loop-candidate : goal.invariant-loop-candidate
invariant-loop-candidate l = l.wide.items ++ wide_values (drop l.candidate-index l.list) ≡ wide_values l.list
