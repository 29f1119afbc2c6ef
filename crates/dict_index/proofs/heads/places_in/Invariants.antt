use Rattle.std.proofs.Common.{◌≡◌, take}
use Rattle.dict_index.specs.Heads.{places_in}
use Rattle.dict_index.proofs.heads.places_in.Given as goal

abbrev pub invariant-loop-head : goal.invariant-loop-head
invariant-loop-head l = l.places.items ≡ places_in (take l.head-index l.heads)
