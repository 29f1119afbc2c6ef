use Rattle.std.proofs.Common.{◌≡◌, ◌++◌, ◌+◌, ◌-◌, length}
use Rattle.std.specs.List.{flat_map, range_with_len}
use Rattle.mz_base.specs.Data.{readings}
use Rattle.conversion_meaning.specs.Entries.{entries_from, entries_in}
use Rattle.lattice.proofs.HitLemmas.{hits_from}
use Rattle.lattice.proofs.entries.push_from.Given as goal

-- The hits that are left are those of the ends that are left. What was added, and then the entries to these ends, are
-- all entries from here.
abbrev pub invariant-loop-end : goal.invariant-loop-end
invariant-loop-end g l =
    let d = g.D.DataSet.lists l.set in
    let rows = g.U.UserWords.rows l.user in
    let limit = length l.key + 1 in
    record {
      hits : l.left ≡ hits_from (readings d) l.key l.begin l.end limit;
      added : l.out.items ++ flat_map (entries_in d rows l.key l.bounds l.begin) (range_with_len l.end (limit - l.end)) ≡ l.initial.out.items ++ entries_from d rows l.key l.bounds l.begin;
    }
