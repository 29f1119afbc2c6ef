use Rattle.run_meaning.proofs.LogAnswers.{closed_has_each, jobs_come_once, reloads_come_once}
use Rattle.run_meaning.proofs.log.each_comes_once.Goals as goal

pub returns-clause-jobs : goal.returns-clause-jobs
returns-clause-jobs c = jobs_come_once

pub returns-clause-closed : goal.returns-clause-closed
returns-clause-closed c = closed_has_each

pub returns-clause-reloads : goal.returns-clause-reloads
returns-clause-reloads c = reloads_come_once
