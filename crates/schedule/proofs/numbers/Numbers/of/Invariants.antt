use Rattle.std.proofs.Common.{◌≡◌, ◌+◌, ℕ, List, drop}
use Rattle.schedule.specs.Names.{noted, number_from}
use Rattle.schedule.proofs.numbers.Numbers.of.Given as goal

-- the names from this place on are noted
abbrev pub invariant-loop-place : goal.invariant-loop-place
invariant-loop-place l =
    (field : List ℕ) → noted l.numbers field ≡ number_from (l.place + 1) (drop l.place l.names) field
