use Rattle.std.proofs.Common.{◌≡◌, ap, subst, sym, ◌∙◌, suc, ◌-◌, ◌<◌, false, length, set, arith}
use Rattle.run_meaning.specs.Jobs.{is_logged}
use Rattle.core_steps.specs.Boards.{mark_of, newest_with}
use Rattle.core_steps.proofs.BoardLemmas.{noted}
use Rattle.core_steps.proofs.board.Board.note.Goals as goal

pub returns : goal.returns
returns c jobs log entry is fresh own outcome =
    let before = c.args.self.now in
    let place = c.args.job - 1 in
    let from = c.requires.from in
    let to = c.requires.to in
    let number : c.args.job ≡ suc place = omega (arith, from) in
    let within : place < length before.marks.items = omega (arith, from, to) in
    let marks = ap (set before.marks.items place) (c.mark_of.ensures ∙ ap mark_of (sym outcome)) in
    let newest = c.newest_with-self.ensures ∙ (ap (λ n. newest_with before.newest n c.args.outcome) number ∙ ap (newest_with before.newest (suc place)) (sym outcome)) in
    noted jobs log entry before _ place is (subst (λ n. is_logged log n ≡ false) number fresh) (own ∙ number) within marks c.saturating_sub-self.ensures newest
