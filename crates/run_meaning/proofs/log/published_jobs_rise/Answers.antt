use Rattle.run_meaning.proofs.LogAnswers.{newest_passes, published_read, published_rise}
use Rattle.run_meaning.proofs.log.published_jobs_rise.Goals as goal

pub returns-clause-rise : goal.returns-clause-rise
returns-clause-rise c = published_rise

pub returns-clause-read : goal.returns-clause-read
returns-clause-read c = published_read

pub returns-clause-newest : goal.returns-clause-newest
returns-clause-newest c = newest_passes
