use Rattle.core_steps.proofs.StandingLemmas.{dict_entry}
use Rattle.core_steps.proofs.standing.Standing.note.Goals as goal

pub returns-clause-kept : goal.returns-clause-kept
returns-clause-kept c = λ journal caught. dict_entry journal c.args.self.now c.args.reload c.requires.from c.requires.to caught
