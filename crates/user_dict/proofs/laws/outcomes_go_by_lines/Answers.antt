use Rattle.user_dict.proofs.OutcomeLemmas.{outcomes-by_lines}
use Rattle.user_dict.proofs.laws.outcomes_go_by_lines.Goals as goal

pub returns : goal.returns
returns c = outcomes-by_lines
