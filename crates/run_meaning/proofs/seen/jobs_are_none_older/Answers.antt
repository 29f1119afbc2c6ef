use Rattle.run_meaning.proofs.SeenLemmas.{named_is_published, named_never_fall}
use Rattle.run_meaning.proofs.seen.jobs_are_none_older.Goals as goal

pub returns-clause-published : goal.returns-clause-published
returns-clause-published c = named_is_published

pub returns-clause-never_fall : goal.returns-clause-never_fall
returns-clause-never_fall c = named_never_fall
