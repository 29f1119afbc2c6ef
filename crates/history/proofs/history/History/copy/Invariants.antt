use Rattle.std.proofs.Common.{◌≡◌, []}
use Rattle.std.specs.Prelude.{reverse}
use Rattle.std.specs.Iterator.Adapters.{rev_source}
use Rattle.session_meaning.specs.History.{learn}
use Rattle.history.specs.Pairs.{pairs_of}
use Rattle.history.proofs.history.History.copy.Given as goal

-- what is copied, and then the pairs that are left, the last first, give what all of them give
abbrev pub invariant-loop-kept : goal.invariant-loop-kept
invariant-loop-kept l =
    learn l.copy (reverse (pairs_of (rev_source l.kept-iterator))) ≡ learn [] (reverse l.fn.self)
