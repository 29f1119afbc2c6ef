use Rattle.std.proofs.Common.{◌≡◌, true, eqb, sym, ap, ◌∙◌, arith}
use Rattle.std.proofs.lemmas.Bool.Decides.{nat_tests}
use Rattle.std.proofs.lemmas.List.{take_all}
use Rattle.mz_base.specs.Data.{class_place}
use Rattle.mz_base.specs.declared.data.Class.{Class}
use Rattle.pos_table.specs.Classes.{has_class, same_class}
use Rattle.pos_table.specs.declared.unknown.ClassRow.{ClassRow}
use Rattle.pos_table.proofs.LatestLemmas.{last_where, find-latest}
use Rattle.pos_table.proofs.unknown.last_row.Goals as goal

-- a row of this class is repeated by the rows of this class
has_class-same : (class : Class) (row other : ClassRow) → has_class class row ≡ true → same_class row other ≡ has_class class other
has_class-same class row other is =
    let same : class_place row.class ≡ class_place class = grind (arith, nat_tests, is) in
    ap (eqb (class_place other.class)) same

pub returns : goal.returns
returns c =
    let rows = c.args.rows.now in
    let all = take_all c.loop-row.row-index rows c.loop-row-test.false in
    c.loop-row.invariant
    ∙ ap (last_where same_class (has_class c.args.class)) all
    ∙ sym (find-latest same_class (has_class c.args.class) (has_class-same c.args.class) rows)
