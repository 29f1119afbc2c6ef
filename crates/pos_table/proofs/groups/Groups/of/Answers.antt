use Rattle.std.proofs.Common.{◌∙◌, take, refl}
use Rattle.std.proofs.lemmas.List.{take_more}
use Rattle.mz_base.specs.Data.{values_of}
use Rattle.pos_table.proofs.GroupLemmas.{AreGroups-push}
use Rattle.pos_table.proofs.groups.Groups.of.Goals as goal

pub loop-row-init : goal.loop-row-init
unfolding values_of
loop-row-init c = λ reading. rw c.new.ensures.empty refl

pub loop-row-preserved : goal.loop-row-preserved
loop-row-preserved c =
    let rows = c.args.rows.now in
    let at = c.loop-row.row-index in
    let row = c.row-item.result in
    rw (take_more rows at row c.loop-row-test.true, ← c.row-item.is) (AreGroups-push c.loop-row.groups c.add.new.self (take at rows) row c.in_ok-reading.reading.items c.in_ok-value.value c.loop-row.invariant (c.in_ok-reading.ensures.items ∙ c.as_chars.ensures) c.in_ok-value.ensures c.in_ok-add.ensures)
