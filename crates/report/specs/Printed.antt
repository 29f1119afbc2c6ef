-- What a writer leaves, within the limit of a report.
use Rattle.std.specs.Prelude.{◌≡◌, ℕ, ◌<◌, ◌≤◌, ⊤, ◌++◌, List, Result, Ok, Err, length}
use Rattle.report.specs.declared.error.PrintError.{PrintError}
use Rattle.report.specs.declared.error.PrintError.TheVariants.{TooLarge, NoMemory}
use Rattle.report.specs.declared.room.TheConstants.{MOST_REPORT_BYTES}

-- this text comes after what was there, within the limit; or it would pass it
abbrev pub Adds : {A : Type 0} → List ℕ → List ℕ → Result A PrintError → List ℕ → Type 0
Adds before text (Ok done) after = (after ≡ before ++ text) × (length after ≤ MOST_REPORT_BYTES)
Adds before text (Err TooLarge) after = MOST_REPORT_BYTES < length (before ++ text)
Adds before text (Err NoMemory) after = ⊤
