use Rattle.std.proofs.Common.{◌≡◌, ◌++◌, option_map, drop}
use Rattle.mz_base.specs.Lines.{pointed}
use Rattle.cert_text.specs.Fields.{values_of}
use Rattle.cert_text.proofs.field.values_of.Given as goal

-- the values so far, and then those of the fields that are left, are the values of all fields
abbrev pub invariant-loop-field : goal.invariant-loop-field
invariant-loop-field g l =
    let value_of = g.T.FromField.value_of in
    option_map (λ values. l.values.items ++ values) (values_of value_of (pointed (drop l.field-index l.fields))) ≡ values_of value_of (pointed l.fields)
