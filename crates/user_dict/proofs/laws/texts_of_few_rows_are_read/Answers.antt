use Rattle.user_dict.proofs.OutcomeLemmas.{allowed-read, read-allowed}
use Rattle.user_dict.proofs.laws.texts_of_few_rows_are_read.Goals as goal

pub returns-clause-read : goal.returns-clause-read
returns-clause-read c = read-allowed

pub returns-clause-allowed : goal.returns-clause-allowed
returns-clause-allowed c = allowed-read
