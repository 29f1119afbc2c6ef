use Rattle.composer.proofs.Moves.{left-shows, right-shows, home-shows, end-shows}
use Rattle.composer.proofs.laws.moves_show_the_reading.Goals as goal

pub returns-clause-left : goal.returns-clause-left
returns-clause-left c = left-shows

pub returns-clause-right : goal.returns-clause-right
returns-clause-right c = right-shows

pub returns-clause-home : goal.returns-clause-home
returns-clause-home c = home-shows

pub returns-clause-end : goal.returns-clause-end
returns-clause-end c = end-shows
