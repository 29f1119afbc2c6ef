use Rattle.std.proofs.Common.{◌≡◌, replicate, Some}
use Rattle.left_right.specs.Sides.{view as seat_view}
use Rattle.versions.proofs.making.seat_readers.Given as goal

abbrev pub invariant-loop : goal.invariant-loop
invariant-loop g l =
    (seat_view l.copies.desk.place ≡ Some l.start.known) × (l.copies.desk.shown ≡ l.fn.copies.desk.shown)
    × (l.all.items ≡ replicate l.counter (record { prefix = l.start.known; unmet = 0 }))
