use Rattle.romaji_table.proofs.LatestRules.{latest-AreDistinct}
use Rattle.romaji_table.proofs.RepeatedRows.{latest-Contains, latest-last}
use Rattle.romaji_table.specs.Inputs.{same_input}
use Rattle.romaji_table.proofs.laws.law_of_repeats.Goals as goal

pub returns : goal.returns
returns c = record {
  rows = latest-Contains same_input;
  distinct = latest-AreDistinct;
  last = latest-last same_input;
}
