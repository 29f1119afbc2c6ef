use Rattle.std.proofs.Common.{rules, sym}
use Rattle.mz_base.specs.Numbers.{unsigned_of}
use Rattle.mz_base.proofs.NumberLemmas.{AreFewDigits-numeral, parse-numeral, digits_value-small}
use Rattle.mz_base.proofs.numbers.unsigned.Goals as goal

pub returns-then-not-is_numeral-clause-value : goal.returns-then-not-is_numeral-clause-value
unfolding unsigned_of
returns-then-not-is_numeral-clause-value c = search rules

pub returns-clause-value : goal.returns-clause-value
unfolding unsigned_of
returns-clause-value c =
    let is = sym c.if-not-is_numeral.ensures in
    let few = AreFewDigits-numeral _ _ is in
    rw (c.ok.ensures.value, parse-numeral c.args.most c.args.text.now c.parse.result c.requires few c.parse.ensures.value.0, is)

pub returns-clause-small : goal.returns-clause-small
returns-clause-small c =
    let few = AreFewDigits-numeral _ _ (sym c.if-not-is_numeral.ensures) in
    rw (c.ok.ensures.value, parse-numeral c.args.most c.args.text.now c.parse.result c.requires few c.parse.ensures.value.0) (digits_value-small _ _ c.requires few)
