use Rattle.std.proofs.Common.{◌≡◌, map, take}
use Rattle.dict_index.specs.Heads.{head_of}
use Rattle.dict_index.proofs.heads.heads_of.Given as goal

abbrev pub invariant-loop-place : goal.invariant-loop-place
invariant-loop-place l = l.heads.items ≡ map (head_of l.texts) (take l.place-index l.places)
