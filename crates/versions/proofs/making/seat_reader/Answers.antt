use Rattle.left_right.specs.Sides.{view as seat_view}
use Rattle.versions.proofs.Rules.{admits, forks, merges}
use Rattle.versions.proofs.making.seat_reader.Goals as goal

pub reader-requires : goal.reader-requires
reader-requires g c = admits (λ s. s.known)

pub tell-requires : goal.tell-requires
tell-requires g c = let place = c.args.copies.now.desk.place in forks (λ s. s.known) place.id (seat_view place)

pub learn-requires-clause-rule : goal.learn-requires-clause-rule
learn-requires-clause-rule g c =
    let place = c.in-Ok.seat.place in
    merges (λ s. s.known) place.id (seat_view place) c.tell.result.id (seat_view c.tell.result)
