-- A writer as a sink.
use Rattle.std.specs.Prelude.{ℕ}

-- the writer, and how often it failed
pub record SinkOver (W : Type 0) : Type 0 where
  pub out : W
  pub faults : ℕ
