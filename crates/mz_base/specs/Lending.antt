-- An item that is lent to be changed at its place.
use Rattle.std.specs.Prelude.{ℕ, List, slice_set}
use Rattle.std.specs.Borrow.{Lends, MutBor, Fml, RattleType}
use Rattle.mz_base.specs.contracts.seq.Seq.{the_row}

-- the list ends with the last value behind the reference at this place
abbrev pub LendsItem : (T : RattleType) → MutBor (List T.Denot) → ℕ → MutBor T.Denot → Fml
LendsItem T s place r = Lends (the_row T) T s r (slice_set s.now place)
