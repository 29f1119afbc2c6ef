use Rattle.std.proofs.Common.{◌≡◌, map, take}
use Rattle.mz_base.specs.declared.data.WordRow.{WordRow}
use Rattle.dict_index.specs.Packed.{IsPacked, texts_of}
use Rattle.dict_index.proofs.packed.Packed.of_readings.Given as goal

-- the readings of the rows so far are packed
abbrev pub invariant-loop-row : goal.invariant-loop-row
invariant-loop-row l = record {
  packed : IsPacked l.letters.items l.starts.items;
  texts : texts_of l.letters.items l.starts.items ≡ map (λ (row : WordRow). row.reading) (take l.row-index l.rows);
}
