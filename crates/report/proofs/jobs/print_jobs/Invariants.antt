use Rattle.std.proofs.Common.{◌≡◌, ◌++◌, drop}
use Rattle.std.specs.List.{flat_map}
use Rattle.std.specs.String.{string_bytes}
use Rattle.report.specs.Texts.{job_text}
use Rattle.report.proofs.jobs.print_jobs.Given as goal

-- what is written, and then the jobs that are left, are all jobs
abbrev pub invariant-loop-job : goal.invariant-loop-job
invariant-loop-job l =
    string_bytes l.out ++ flat_map job_text (drop l.job-index l.jobs) ≡ string_bytes l.initial.out ++ flat_map job_text l.jobs
