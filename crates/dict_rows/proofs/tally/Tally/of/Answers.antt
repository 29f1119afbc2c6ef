use Rattle.std.proofs.Common.{take, refl}
use Rattle.std.proofs.lemmas.List.{take_more}
use Rattle.dict_rows.proofs.tally.Tally.of.Goals as goal

pub loop-row-preserved : goal.loop-row-preserved
loop-row-preserved c =
    rw (take_more c.args.rows.now c.loop-row.row-index c.row-item.result c.loop-row-test.true, ← c.row-item.is) (c.note.ensures (take c.loop-row.row-index c.args.rows.now) c.row-item.result c.loop-row.invariant refl)
