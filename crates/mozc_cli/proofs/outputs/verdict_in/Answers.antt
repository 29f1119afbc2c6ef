use Rattle.std.proofs.Common.{◌≡◌, ◌∙◌}
use Rattle.mozc_cli.proofs.outputs.verdict_in.Goals as goal

pub returns-in-Ok-clause-told : goal.returns-in-Ok-clause-told
returns-in-Ok-clause-told g c files told =
    let key : c.as_chars.result.now ≡ c.args.query.now.key = c.as_chars.ensures ∙ c.in_ok-key.ensures in
    let read = rw c.in_ok-name.ensures at (c.in-Ok.ensures.told files told) in
    rw read (rw key at c.judged.ensures.told)
