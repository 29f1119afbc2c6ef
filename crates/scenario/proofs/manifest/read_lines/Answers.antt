use Rattle.std.proofs.Common.{◌≡◌, ◌≤◌, length, Err, sym, ap, ◌∙◌, arith}
use Rattle.std.proofs.lemmas.Result.{err_from_is_err_and}
use Rattle.scenario.specs.Manifests.{manifest_of}
use Rattle.mz_base.proofs.AnswerLemmas.{GivesBy-refused}
use Rattle.scenario.specs.ManifestAnswers.{line_fault}
use Rattle.scenario.proofs.ManifestSteps.{manifest_after-line, manifest_after-end}
use Rattle.scenario.proofs.manifest.read_lines.Goals as goal

pub returns-in_err-read_line-clause-told : goal.returns-in_err-read_line-clause-told
unfolding manifest_of
returns-in_err-read_line-clause-told c =
    let error = err_from_is_err_and c.from_residual.result c.from_residual.ensures.1 in
    GivesBy-refused line_fault _ (λ (_ : Unit {0}). c.read_line.new.self) _ _ _ _ (error.1 ∙ ap Err error.2) c.in_err-read_line.ensures.told (λ fault refused. rw (← c.loop-index.invariant.0) (manifest_after-line _ c.args.lines.now _ _ _ c.loop-index-test.true refused))

pub loop-index-preserved : goal.loop-index-preserved
loop-index-preserved c = (
  sym (manifest_after-line _ c.args.lines.now _ _ _ c.loop-index-test.true c.in_ok-read_line.ensures.told) ∙ c.loop-index.invariant.0,
  omega (arith, c.in_ok-read_line.ensures.few, c.loop-index.invariant.1),
)

pub returns-clause-told : goal.returns-clause-told
unfolding manifest_of
returns-clause-told c =
    let past : length c.args.lines.now ≤ c.loop-index.index = c.loop-index-test.false in
    let last : length c.args.lines.now ≡ c.loop-index.index = omega (arith, past) in
    let ends = manifest_after-end c.loop-index.draft c.args.lines.now _ past in
    rw (← c.loop-index.invariant.0, ends, ← last) c.finish.ensures.told
