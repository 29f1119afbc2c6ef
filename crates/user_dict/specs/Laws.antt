-- The laws of a user's dictionary, line by line.
use Rattle.std.specs.Prelude.{◌≡◌, ℕ, ◌+◌, ◌<◌, ◌≤◌, true, List, [], Ok, length, slice_index_or, take}
use Rattle.std.specs.List.{All}
use Rattle.std.specs.Str.{is_utf8}
use Rattle.mz_base.specs.Lines.{lines_of}
use Rattle.mz_base.specs.declared.user.TheConstants.{MOST_USER_ROWS}
use Rattle.user_dict.specs.Outcomes.{Nothing, kept_rows, outcome_of, outcomes_of, skipped_lines}
use Rattle.user_dict.specs.Rows.{Taken, taken_of}

-- of a file that reads, the rows are those that its lines keep, and the skipped lines those that its lines skip, in their order
pub record IsOfOutcomes (bytes : List ℕ) (taken : Taken) : Type 0 where
  pub rows : taken.rows ≡ kept_rows (outcomes_of bytes)
  pub skipped : taken.skipped ≡ skipped_lines (outcomes_of bytes)

abbrev pub TakenIsOfOutcomes : Type 0
TakenIsOfOutcomes = (bytes : List ℕ) (taken : Taken) → taken_of bytes ≡ Ok taken → IsOfOutcomes bytes taken

-- a line comes to what it comes to after the rows that the lines before it keep
abbrev pub OutcomesGoByLines : Type 0
OutcomesGoByLines =
    (bytes : List ℕ) (place : ℕ) → place < length (lines_of bytes) → slice_index_or (outcomes_of bytes) place Nothing ≡ outcome_of (kept_rows (take place (outcomes_of bytes))) (place + 1) (slice_index_or (lines_of bytes) place [])

-- what a file has to be
pub record MayBeRead (bytes : List ℕ) : Type 0 where
  pub text : All (λ line. is_utf8 line ≡ true) (lines_of bytes)
  pub few : length (kept_rows (outcomes_of bytes)) ≤ MOST_USER_ROWS

-- and no more: it reads exactly where each line is text, and no row is one too many
abbrev pub ReadIsAllowed : Type 0
ReadIsAllowed = (bytes : List ℕ) (taken : Taken) → taken_of bytes ≡ Ok taken → MayBeRead bytes

abbrev pub AllowedIsRead : Type 0
AllowedIsRead = (bytes : List ℕ) → MayBeRead bytes → (taken : Taken) × (taken_of bytes ≡ Ok taken)
