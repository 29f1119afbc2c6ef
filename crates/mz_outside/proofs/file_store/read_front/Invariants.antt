use Rattle.std.proofs.Common.{◌<◌, ◌≤◌, ◌-◌, vec_len}
use Rattle.std.specs.Io.KnownBytes.{Consumes}
use Rattle.mz_outside.specs.declared.limits.TheConstants.{MOST_READ}
use Rattle.mz_outside.proofs.file_store.read_front.Given as goal

abbrev pub invariant-pieces : goal.invariant-pieces
invariant-pieces g l = record {
  chunk : 0 < vec_len l.chunk;
  within : vec_len l.bytes ≤ MOST_READ;
  consumed : Consumes (g.R.Read.remaining l.initial.reader) (g.R.Read.remaining l.reader) l.bytes.items;
}

abbrev pub decreases-pieces : goal.decreases-pieces
decreases-pieces g l = MOST_READ - vec_len l.bytes
