use Rattle.std.proofs.Common.{◌≡◌, ◌++◌, drop}
use Rattle.std.specs.List.{filter_map}
use Rattle.conversion_meaning.specs.Entries.{user_entry}
use Rattle.lattice.proofs.sources.push_users.Given as goal

-- what was added, and then the entries of the rows that are left, are the entries of all
abbrev pub invariant-loop-place : goal.invariant-loop-place
invariant-loop-place g l =
    let entry = user_entry (g.D.DataSet.lists l.set) (g.U.UserWords.rows l.user) l.begin l.end in
    l.out.items ++ filter_map entry (drop l.place-index l.place-items) ≡ l.initial.out.items ++ filter_map entry l.place-items
