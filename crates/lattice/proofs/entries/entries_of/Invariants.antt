use Rattle.std.proofs.Common.{◌≡◌, ◌++◌, ◌-◌, length}
use Rattle.std.specs.List.{flat_map, range_with_len}
use Rattle.conversion_meaning.specs.Entries.{entries, entries_from}
use Rattle.lattice.proofs.entries.entries_of.Given as goal

-- what was added, and then the entries from the begins that are left, are the entries of the key
abbrev pub invariant-loop-begin : goal.invariant-loop-begin
invariant-loop-begin g l =
    let d = g.D.DataSet.lists l.set in
    let rows = g.U.UserWords.rows l.user in
    l.out.items ++ flat_map (entries_from d rows l.key l.bounds) (range_with_len l.begin (length l.key - l.begin)) ≡ entries d rows l.key l.bounds
