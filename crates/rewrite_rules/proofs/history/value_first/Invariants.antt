use Rattle.std.proofs.Common.{◌≡◌}
use Rattle.std.specs.Prelude.{filter, not}
use Rattle.conversion_meaning.specs.Rules.{is_value}
use Rattle.rewrite_rules.proofs.history.value_first.Given as goal

-- of the candidates so far, those with this value, and the others
abbrev pub invariant-loop-candidate : goal.invariant-loop-candidate
invariant-loop-candidate l = record {
  chosen : l.first.items ≡ filter (is_value l.value) l.yielded;
  rest : l.others.items ≡ filter (λ candidate. not (is_value l.value candidate)) l.yielded;
}
