use Rattle.std.proofs.Common.{◌<◌, arith}
use Rattle.rewrite_rules.proofs.TenLemmas.{digit-small, number-short, small-tens}
use Rattle.rewrite_rules.proofs.numbers.number_of.Goals as goal

pub overflow_mul-number : goal.overflow_mul-number
overflow_mul-number c =
    let short = number-short c.args.key.now c.requires in
    let inside = c.loop-c-test.true in
    let few : c.loop-c.c-index < 16 = omega (arith, short, inside) in
    let small = small-tens c.loop-c.number c.loop-c.c-index few c.loop-c.invariant.small in
    omega (arith, small)

pub overflow_add-number : goal.overflow_add-number
overflow_add-number c =
    let short = number-short c.args.key.now c.requires in
    let inside = c.loop-c-test.true in
    let few : c.loop-c.c-index < 16 = omega (arith, short, inside) in
    let small = small-tens c.loop-c.number c.loop-c.c-index few c.loop-c.invariant.small in
    let digit = digit-small c.args.key.now c.loop-c.c-index c.c-item.result c.requires inside in
    let read = c.c-item.is in
    let value = c.value_of.ensures in
    omega (arith, small, digit, read, value)
