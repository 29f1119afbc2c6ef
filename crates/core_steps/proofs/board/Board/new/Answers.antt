use Rattle.std.proofs.Common.{◌≡◌, refl, List, ◌-◌, ◌++◌, ap, take, replicate, ◌∙◌, arith}
use Rattle.std.specs.Vec.{vec_len}
use Rattle.std.proofs.Math.Seq.{take-nil}
use Rattle.core_steps.specs.declared.board.Mark.{Mark}
use Rattle.core_steps.specs.declared.board.Mark.TheVariants as mark
use Rattle.core_steps.proofs.BoardLemmas.{begun}
use Rattle.core_steps.proofs.board.Board.new.Goals as goal

pub returns : goal.returns
returns c =
    let jobs = c.args.jobs in
    let rest = jobs - vec_len c.new-marks.result in
    let empty = c.new-marks.ensures.len in
    let all : rest ≡ jobs = omega (arith, empty) in
    let items = ap (λ (xs : List Mark). take jobs xs ++ replicate rest mark.Missing) c.new-marks.ensures.items ∙ ap (λ (xs : List Mark). xs ++ replicate rest mark.Missing) (take-nil jobs) in
    begun jobs _ (c.in_ok-resize.ensures.items ∙ (items ∙ ap (λ n. replicate n mark.Missing) all)) refl refl
