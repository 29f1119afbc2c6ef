use Rattle.std.proofs.Common.{◌∙◌, sym, arith}
use Rattle.dict_index.specs.Heads.{is_below}
use Rattle.dict_index.proofs.Points.{none-from, not-false}
use Rattle.dict_index.proofs.order.none_is_below.Goals as goal

pub returns-else-place-heads : goal.returns-else-place-heads
returns-else-place-heads c fails =
    let more = c.if-place-heads.false in
    let inside = c.requires.inside in
    none-from (is_below c.args.texts.now c.args.depth c.args.code) c.args.heads.now c.requires.partitioned c.args.place _ (omega (arith, more, inside)) (sym c.is_below.ensures ∙ not-false c.is_below.result fails)
