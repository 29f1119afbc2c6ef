use Rattle.std.proofs.Common.{◌∙◌, sym, arith}
use Rattle.dict_index.specs.Heads.{is_below}
use Rattle.dict_index.proofs.Points.{all-before}
use Rattle.dict_index.proofs.order.all_are_below.Goals as goal

pub returns-else-place-eq0 : goal.returns-else-place-eq0
returns-else-place-eq0 c passes =
    let none = c.if-place-eq0.false in
    all-before (is_below c.args.texts.now c.args.depth c.args.code) c.args.heads.now c.requires.partitioned c.args.place _ (omega (arith, none)) c.requires.inside (sym c.is_below.ensures ∙ passes)
