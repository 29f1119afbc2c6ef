use Rattle.std.proofs.Common.{◌≡◌, ◌+◌, ◌-◌, ◌++◌, length, flat_map, filter}
use Rattle.std.specs.List.{range_with_len}
use Rattle.mz_base.specs.Data.{hits_to}
use Rattle.dict_index.specs.Heads.{AreHeads, places_in}
use Rattle.dict_index.proofs.KeyParts.{begins}
use Rattle.dict_index.proofs.look_up.hits_from.Given as goal

-- the heads of the texts that begin with the part before this end, and the hits so far before those that are left
abbrev pub invariant-loop-end : goal.invariant-loop-end
invariant-loop-end l = record {
  begun : places_in l.begun.heads.now ≡ filter (begins l.key l.begin l.texts (l.end - 1)) (places_in l.heads);
  are : AreHeads l.texts l.begun.heads.now;
  hits : l.hits.items ++ flat_map (hits_to l.texts l.key l.begin) (range_with_len l.end (length l.key + 1 - l.end)) ≡ flat_map (hits_to l.texts l.key l.begin) (range_with_len (l.begin + 1) (length l.key - l.begin));
}
