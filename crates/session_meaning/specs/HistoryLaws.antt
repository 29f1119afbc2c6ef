-- The laws of a history: docs/FORMATS.md, "Learning".
use Rattle.std.specs.Prelude.{◌≡◌, ◌≤◌, List, [], length, reverse}
use Rattle.std.specs.List.{IsDistinct}
use Rattle.mz_base.specs.declared.lattice.Pair.{Pair}
use Rattle.session_meaning.specs.History.{is_pair, learn}
use Rattle.session_meaning.specs.declared.history.TheConstants.{MOST_PAIRS}

-- each pair once, and no more than there may be
pub record IsHistory (pairs : List Pair) : Type 0 where
  pub distinct : IsDistinct is_pair pairs
  pub few : length pairs ≤ MOST_PAIRS

-- such a list comes again where its pairs are learned, the last first, from the empty list
abbrev pub RelearnedIsSame : Type 0
RelearnedIsSame = (pairs : List Pair) → IsHistory pairs → learn [] (reverse pairs) ≡ pairs
