use Rattle.std.proofs.Common.{◌≡◌, ◌*◌, ◌+◌, ◌-◌, ◌<◌, drop}
use Rattle.std.specs.List.{fold}
use Rattle.conversion_meaning.specs.Rules.{number_of}
use Rattle.rewrite_rules.proofs.TenLemmas.{tens}
use Rattle.rewrite_rules.proofs.numbers.number_of.Given as goal

-- the number so far has no more digits than were read, and the digits that are left make it that of the key
abbrev pub invariant-loop-c : goal.invariant-loop-c
invariant-loop-c l = record {
  small : l.number < tens l.c-index;
  given : fold (λ n c. n * 10 + (c - 0x30)) l.number (drop l.c-index l.key) ≡ number_of l.key;
}
