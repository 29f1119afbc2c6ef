use Rattle.std.proofs.Common.{rules}
use Rattle.mz_outside.specs.declared.limits.TheConstants.{MOST_READ}
use Rattle.mz_outside.proofs.FrontLemmas.{IsFront-end}
use Rattle.mz_outside.proofs.file_store.read_front.Goals as goal

pub returns-then-branch-eq0-clause-front : goal.returns-then-branch-eq0-clause-front
returns-then-branch-eq0-clause-front g c =
    IsFront-end _ _ MOST_READ _ (c.in_ok-read_piece.ensures.consumed _ c.pieces.invariant.consumed)
    (c.in_ok-read_piece.ensures.end (search rules) (search rules)) (search rules)
