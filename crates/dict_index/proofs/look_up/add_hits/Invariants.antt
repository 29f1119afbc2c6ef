use Rattle.std.proofs.Common.{◌≡◌, ◌++◌, map, take}
use Rattle.dict_index.specs.Heads.{places_in}
use Rattle.dict_index.proofs.look_up.add_hits.Given as goal

-- the hits before, and those of the heads so far
abbrev pub invariant-loop-head : goal.invariant-loop-head
invariant-loop-head l =
    l.hits.items ≡ l.fn.hits.items ++ map (λ row. record { end = l.end; row = row }) (places_in (take l.head-index l.found))
