use Rattle.std.proofs.Common.{◌≡◌, ◌+◌, ◌-◌, ◌++◌, length}
use Rattle.std.specs.List.{flat_map, range_with_len}
use Rattle.mz_base.specs.Data.{hits_at, hits_to, readings}
use Rattle.conversion_meaning.specs.Examples.{set}
use Rattle.example_set.proofs.set.ExampleSetDataSet.words_at.Given as goal

abbrev pub invariant-loop-end : goal.invariant-loop-end
invariant-loop-end l =
    l.hits.items ++ flat_map (hits_to (readings set) l.key l.begin) (range_with_len l.end (length l.key + 1 - l.end)) ≡ hits_at (readings set) l.key l.begin
