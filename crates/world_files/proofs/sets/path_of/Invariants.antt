use Rattle.std.proofs.Common.{◌≡◌, ◌-◌, [], drop, filter, map, slice_index_or}
use Rattle.engine.specs.Sets.{has_role}
use Rattle.engine.specs.declared.files.SetFile.{SetFile}
use Rattle.world_files.specs.DataSets.{path_of}
use Rattle.world_files.proofs.sets.path_of.Given as goal

-- among the files that are left the wanted one stands at this place
abbrev pub invariant-loop-file : goal.invariant-loop-file
invariant-loop-file l =
    slice_index_or (map (λ (file : SetFile). file.path) (filter (has_role l.fault.role) (drop l.file-index l.files))) (l.left - 1) [] ≡ path_of l.files l.fault
