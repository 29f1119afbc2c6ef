use Rattle.std.proofs.Common.{◌≡◌}
use Rattle.std.specs.Prelude.{Option, None, All}
use Rattle.nbest.specs.Lists.{Listed}
use Rattle.nbest.proofs.cache.Cache.new.Given as goal

abbrev pub invariant-loop-slot : goal.invariant-loop-slot
invariant-loop-slot l = All (λ (kept : Option Listed). kept ≡ None) l.slots.items
