use Rattle.conversion_meaning.proofs.EntryLemmas.{IsWellFormed-from_entries}
use Rattle.conversion_meaning.proofs.entries.entries_are_well_formed.Goals as goal

pub returns : goal.returns
returns c = IsWellFormed-from_entries
