use Rattle.std.proofs.Common.{◌≡◌, ℕ, ◌+◌, ◌-◌, ◌<◌, ◌≤◌, ◌++◌, length, map}
use Rattle.std.specs.List.{range_with_len}
use Rattle.core_steps.specs.JobFiles.{lists_read}
use Rattle.world_files.specs.DataSets.{files_of, job_of}
use Rattle.world_files.proofs.EngineLists.{lists_seen}
use Rattle.world_files.proofs.sets.add_jobs.Given as goal

-- The jobs so far, and then those that are left, are all; and what is left of the files has all files of the sets that are
-- left.
abbrev pub invariant-loop-place : goal.invariant-loop-place
invariant-loop-place l = record {
  jobs : map (lists_read lists_seen) l.jobs.items ++ map (job_of l.fn.files.items) (range_with_len (l.place + 1) (l.count - l.place)) ≡ map (lists_read lists_seen) l.initial.jobs.items ++ map (job_of l.fn.files.items) (range_with_len 2 (l.fn.count - 1));
  files : (number : ℕ) → l.place < number → files_of number l.left.items ≡ files_of number l.fn.files.items;
  few : length l.left.items ≤ length l.fn.files.items;
}
