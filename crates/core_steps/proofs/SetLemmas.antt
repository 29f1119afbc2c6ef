-- The set of a job, and the journal of a user, at their places.
use Rattle.std.proofs.Common.{◌≡◌, sym, ap, ◌∙◌, ℕ, suc, ◌+◌, ◌-◌, ◌<◌, ◌≤◌, List, Result, arith, length, map, slice_index_or}
use Rattle.std.specs.Prelude.{IsOk}
use Rattle.std.proofs.Math.ListN.{length-map}
use Rattle.std.proofs.lemmas.List.{get_or-map}
use Rattle.mz_base.specs.Data.{DataLists}
use Rattle.mz_base.specs.declared.status.BadSet.{BadSet}
use Rattle.run_meaning.specs.Numbers.{at_number}
use Rattle.run_meaning.specs.States.{State, journal_of, no_user_log}
use Rattle.run_meaning.specs.Worlds.{no_job}
use Rattle.run_meaning.proofs.RunningLemmas.{number-parts, number-reads}
use Rattle.core_steps.specs.JobFiles.{lists_read}

module _ {A : Type 0} (lists : A → DataLists) (jobs : List (Result A BadSet)) (job : ℕ) where
  -- the place of a job that reads is one of the list
  job-within : IsOk (at_number no_job (map (lists_read lists) jobs) job) → (0 < job) × (job ≤ length jobs)
  job-within reads =
      let parts = number-parts (map (lists_read lists) jobs) job (number-reads (map (lists_read lists) jobs) job reads) in
      let most = parts.1 in
      let same = length-map jobs (lists_read lists) in
      (parts.0, omega (arith, most, same))

  -- what is read there is what the job's files gave
  pub job-found : (found : Result A BadSet) → IsOk (at_number no_job (map (lists_read lists) jobs) job) → found ≡ slice_index_or jobs (job - 1) found → at_number no_job (map (lists_read lists) jobs) job ≡ lists_read lists found
  job-found found reads is =
      let parts = job-within reads in
      let some = parts.0 in
      let most = parts.1 in
      let number : job ≡ suc (job - 1) = omega (arith, some) in
      let within : job - 1 < length jobs = omega (arith, some, most) in
      ap (at_number no_job (map (lists_read lists) jobs)) number
      ∙ (get_or-map (lists_read lists) jobs (job - 1) found no_job within
      ∙ ap (lists_read lists) (sym is))

-- the journal of the user at a place
pub journal-there : (s : State) (number place : ℕ) → place + 1 ≡ number → journal_of s number ≡ (slice_index_or s.logs.users place no_user_log).entries
unfolding journal_of
journal-there s number place is =
    let at : number ≡ suc place = omega (arith, is) in
    ap (λ n. (at_number no_user_log s.logs.users n).entries) at
