use Rattle.std.proofs.Common.{ℕ, ◌+◌, ◌<◌, List, ◌++◌, length, Option, Some, None}
use Rattle.std.specs.Prelude.{IfSome}
use Rattle.viterbi.specs.Table.{IsTrail}
use Rattle.viterbi.proofs.table.trail.Given as goal

-- what leads to here goes on over the path so far
abbrev pub invariant-loop-at : goal.invariant-loop-at
invariant-loop-at l = record {
  inside : IfSome l.at (λ o. o < length l.table);
  goes_on : (rest : List ℕ) → IsTrail l.table l.at rest → IsTrail l.table l.fn.last (l.path.items ++ rest);
}

abbrev pub after : Option ℕ → ℕ
after None = 0
after (Some o) = o + 1

abbrev pub decreases-loop-at : goal.decreases-loop-at
decreases-loop-at l = after l.at
