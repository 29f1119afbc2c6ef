use Rattle.composer.proofs.Backspaces.{backspaced-shows}
use Rattle.composer.proofs.laws.backspace_takes_one_shown.Goals as goal

pub returns : goal.returns
returns c = backspaced-shows
