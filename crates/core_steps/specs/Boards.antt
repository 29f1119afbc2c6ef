-- What is kept of the job log.
use Rattle.std.specs.Prelude.{◌≡◌, ℕ, Bool, true, false, not, List, length}
use Rattle.std.specs.List.{count_by}
use Rattle.mz_base.specs.declared.event.Outcome.{Outcome}
use Rattle.mz_base.specs.declared.event.Outcome.TheVariants as outcome
use Rattle.mz_base.specs.declared.logs.JobEntry.{JobEntry}
use Rattle.run_meaning.specs.Jobs.{is_logged, is_published, newest}
use Rattle.run_meaning.specs.Numbers.{at_number}
use Rattle.core_steps.specs.declared.board.Board.{Board}
use Rattle.core_steps.specs.declared.board.Mark.{Mark}
use Rattle.core_steps.specs.declared.board.Mark.TheVariants as mark

abbrev pub came : Mark → Bool
came mark.Missing = false
came _ = true

abbrev pub is_missing : Mark → Bool
is_missing kept = not (came kept)

abbrev pub stands : Mark → Bool
stands mark.Published = true
stands _ = false

-- the mark of a job with this outcome
abbrev pub mark_of : Outcome → Mark
mark_of outcome.Published = mark.Published
mark_of _ = mark.Passed

-- the newest published job, after this one came with this outcome
abbrev pub newest_with : ℕ → ℕ → Outcome → ℕ
newest_with before job outcome.Published = job
newest_with before job _ = before

-- the board of so many jobs, with this log
pub record IsBoard (jobs : ℕ) (log : List JobEntry) (board : Board) : Type 0 where
  pub marks : length board.marks.items ≡ jobs
  pub logged : (job : ℕ) → came (at_number mark.Missing board.marks.items job) ≡ is_logged log job
  pub published : (job : ℕ) → stands (at_number mark.Missing board.marks.items job) ≡ is_published log job
  pub left : board.left ≡ count_by is_missing board.marks.items
  pub newest : board.newest ≡ newest log
