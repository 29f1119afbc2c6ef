use Rattle.std.proofs.Common.{◌≡◌, ◌∙◌}
use Rattle.mozc_cli.proofs.outputs.conversion_in.Goals as goal

pub returns-in-Ok-clause-told : goal.returns-in-Ok-clause-told
returns-in-Ok-clause-told g c files told =
    let key : c.as_chars.result.now ≡ c.args.query.now.key = c.as_chars.ensures ∙ c.in_ok-key.ensures in
    rw (c.in-Ok.ensures.told files told) (rw key at c.converted.ensures.told)
