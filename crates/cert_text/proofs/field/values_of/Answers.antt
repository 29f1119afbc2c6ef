use Rattle.std.proofs.Common.{sym, ◌∙◌}
use Rattle.cert_text.proofs.ValueSteps.{values_of-read, values_of-none, values_of-end}
use Rattle.cert_text.proofs.field.values_of.Goals as goal

pub returns-in_default : goal.returns-in_default
returns-in_default g c =
    sym (values_of-none _ c.loop-field.values.items c.args.fields.now _ _ c.loop-field-test.true (sym c.from_field.ensures ∙ c.in_default.is)) ∙ c.loop-field.invariant

pub loop-field-preserved : goal.loop-field-preserved
loop-field-preserved g c =
    let read = values_of-read _ c.loop-field.values.items c.args.fields.now _ _ _ c.loop-field-test.true (sym c.from_field.ensures ∙ c.in-Some.is) in
    rw c.in_ok-push.ensures.items (sym read ∙ c.loop-field.invariant)

pub returns : goal.returns
returns g c =
    sym (values_of-end _ c.loop-field.values.items c.args.fields.now _ c.loop-field-test.false) ∙ c.loop-field.invariant
