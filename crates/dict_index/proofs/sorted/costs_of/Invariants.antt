use Rattle.std.proofs.Common.{◌≡◌, map, pos, slice_index_or, take}
use Rattle.mz_base.specs.declared.data.WordRow.{WordRow}
use Rattle.dict_index.proofs.sorted.costs_of.Given as goal

abbrev pub invariant-loop-place : goal.invariant-loop-place
invariant-loop-place l =
    l.costs.items ≡ map (λ place. slice_index_or (map (λ (row : WordRow). row.cost) l.rows) place (pos 0)) (take l.place-index l.places)
