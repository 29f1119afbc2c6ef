use Rattle.std.proofs.Common.{◌≡◌, ℕ, ◌++◌, drop, map}
use Rattle.mz_base.specs.declared.data.Hit.{Hit}
use Rattle.example_set.proofs.set.push_hits.Given as goal

abbrev pub invariant-loop-row : goal.invariant-loop-row
invariant-loop-row l =
    let hit : ℕ → Hit = λ row. record { end = l.end; row = row } in
    l.out.items ++ map hit (drop l.row-index l.row-items) ≡ l.initial.out.items ++ map hit l.row-items
