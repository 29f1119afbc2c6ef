use Rattle.std.proofs.Common.{◌≡◌, ◌++◌}
use Rattle.std.specs.Vec.Iter.{into_iter_items}
use Rattle.world_files.specs.DataSets.{files_of, others_of}
use Rattle.world_files.proofs.sets.split_off.Given as goal

-- the set's files so far, and then those that are left, are those of all files; and so are the others
abbrev pub invariant-loop-file : goal.invariant-loop-file
invariant-loop-file l =
    (l.split.own.items ++ files_of l.number (into_iter_items l.file-iterator) ≡ files_of l.number l.fn.files.items) × (l.split.others.items ++ others_of l.number (into_iter_items l.file-iterator) ≡ others_of l.number l.fn.files.items)
