use Rattle.viterbi.proofs.ArrivalLemmas.{IsGatheredFrom}
use Rattle.viterbi.proofs.arrivals.arrivals_at.Given as goal

-- the entries from the cursor to here end at the position, and those of the span are gathered
abbrev pub invariant-loop-past : goal.invariant-loop-past
invariant-loop-past l =
    IsGatheredFrom l.entries l.by_end l.span l.table l.to l.cursor l.past l.list.items
