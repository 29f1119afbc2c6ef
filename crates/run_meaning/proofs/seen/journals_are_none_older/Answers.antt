use Rattle.run_meaning.proofs.SeenLemmas.{learns_are_seen, seen_only_grow, takes_see_all}
use Rattle.run_meaning.proofs.seen.journals_are_none_older.Goals as goal

pub returns-clause-all : goal.returns-clause-all
returns-clause-all c = takes_see_all

pub returns-clause-grow : goal.returns-clause-grow
returns-clause-grow c = seen_only_grow

pub returns-clause-learns : goal.returns-clause-learns
returns-clause-learns c = learns_are_seen
