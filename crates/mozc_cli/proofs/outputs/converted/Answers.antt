use Rattle.std.proofs.Common.{◌∙◌}
use Rattle.mozc_cli.proofs.KeyAnswers.{answered-told}
use Rattle.mozc_cli.proofs.outputs.converted.Goals as goal

pub returns-clause-told : goal.returns-clause-told
returns-clause-told g c =
    answered-told (g.D.DataSet.lists c.args.set.now) c.args.key.now c.args.bounds.now _ _ _ _ (c.as_slice.ensures.value ∙ c.in_ok-bounds.ensures) c.in_ok-conversion.ensures c.in_ok-text.ensures c.listed.ensures.told
