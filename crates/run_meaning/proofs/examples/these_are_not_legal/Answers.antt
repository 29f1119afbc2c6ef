use Rattle.std.proofs.Common.{refl}
use Rattle.run_meaning.proofs.Computing.{computing}
use Rattle.run_meaning.proofs.examples.these_are_not_legal.Goals as goal

pub returns-clause-jobs : goal.returns-clause-jobs
unfolding computing
returns-clause-jobs _ =
    record { close_first = refl; third_first = refl; refused_first = refl; again = refl; none = refl; too_late = refl; in_time = refl; sound = refl; faulty = refl; early = refl; twice = refl }

pub returns-clause-reloads : goal.returns-clause-reloads
unfolding computing
returns-clause-reloads _ =
    record { no_user = refl; none = refl; zero = refl; twice = refl }

pub returns-clause-steps : goal.returns-clause-steps
unfolding computing
returns-clause-steps _ =
    record { client_zero = refl; client_two = refl; job_zero = refl; job_two = refl; twice = refl; unneeded = refl; untaken = refl; unlearned = refl; learned_twice = refl; nothing_to_learn = refl; no_command = refl; wait = refl; lower_than_seen = refl }

pub returns-clause-ends : goal.returns-clause-ends
unfolding computing
returns-clause-ends _ =
    record { no_wait = refl; below = refl; unpublished = refl; skipped = refl; before_close = refl; one_would_do = refl; early = refl; twice = refl }
