use Rattle.std.proofs.Common.{◌∙◌, ◌+◌, Err, length, sym, ap, arith}
use Rattle.std.proofs.lemmas.Result.{err_from_is_err_and}
use Rattle.mz_base.proofs.AnswerLemmas.{GivesBy-refused}
use Rattle.mz_base.specs.FileLines.{lines_left}
use Rattle.user_dict.specs.Answers.{import_fault}
use Rattle.user_dict.specs.Kept.{taken_by}
use Rattle.user_dict.specs.Rows.{take_line, take_lines, taken_of}
use Rattle.user_dict.proofs.RowLemmas.{take_lines-end, take_lines-read, take_lines-refused}
use Rattle.user_dict.proofs.importing.read_lines.Goals as goal

pub loop-line-preserved : goal.loop-line-preserved
loop-line-preserved c =
    let before = c.loop-line in
    let line = c.in-Some.line.now in
    let rest = lines_left c.next.new.self in
    let long = ap (λ lines. length lines) c.in-Some.ensures.steps in
    let read = take_lines-read (taken_by before.reader) (taken_by c.take_line.new.self) (before.number + 1) line rest c.in_ok-take_line.ensures.given in
    let all = ap (take_lines (taken_by before.reader) (before.number + 1)) (sym c.in-Some.ensures.steps) ∙ before.invariant.2 in
    (c.in_ok-take_line.ensures.kept, omega (arith, before.invariant.1, long), sym read ∙ all)

pub returns-in_err-take_line-clause-given : goal.returns-in_err-take_line-clause-given
returns-in_err-take_line-clause-given c =
    let before = c.loop-line in
    let line = c.in-Some.line.now in
    let rest = lines_left c.next.new.self in
    let error = err_from_is_err_and c.from_residual.result c.from_residual.ensures.1 in
    let all = ap (take_lines (taken_by before.reader) (before.number + 1)) (sym c.in-Some.ensures.steps) ∙ before.invariant.2 in
    GivesBy-refused import_fault taken_by (λ (done : Unit {0}). taken_by c.take_line.new.self) _ _ (take_line (taken_by before.reader) (before.number + 1) line) (taken_of c.args.bytes.now) (error.1 ∙ ap Err error.2) c.in_err-take_line.ensures.given (λ fault told. sym all ∙ take_lines-refused (taken_by before.reader) (before.number + 1) line rest fault told)

pub returns-clause-given : goal.returns-clause-given
returns-clause-given c =
    let before = c.loop-line in
    sym before.invariant.2
    ∙ (ap (take_lines (taken_by before.reader) (before.number + 1)) c.in-None.ensures.steps.0 ∙ take_lines-end (taken_by before.reader) (before.number + 1))
