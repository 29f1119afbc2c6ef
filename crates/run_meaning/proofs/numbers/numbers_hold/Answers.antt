use Rattle.run_meaning.proofs.NumberLemmas.{count, others, written}
use Rattle.run_meaning.proofs.numbers.numbers_hold.Goals as goal

pub returns-clause-written : goal.returns-clause-written
returns-clause-written g c = written

pub returns-clause-others : goal.returns-clause-others
returns-clause-others g c = others

pub returns-clause-count : goal.returns-clause-count
returns-clause-count g c = count
