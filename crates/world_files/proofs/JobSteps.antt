-- One job more of the jobs of a manifest; and the jobs of the sets but the first.
use Rattle.std.proofs.Common.{◌≡◌, ◌≢◌, ℕ, zero, suc, ◌+◌, ◌-◌, ◌<◌, List, [], ◌∷◌, ◌++◌, Result, Ok, map, length, refl, sym, ap, ◌∙◌, arith, append_assoc}
use Rattle.std.specs.Prelude.{IsOk, slice_index_or}
use Rattle.std.specs.List.{range_with_len}
use Rattle.std.proofs.lemmas.List.{length-map, map-append}
use Rattle.mz_base.specs.Data.{DataLists}
use Rattle.mz_base.specs.declared.status.BadSet.{BadSet}
use Rattle.run_meaning.specs.Numbers.{at_number}
use Rattle.run_meaning.specs.Worlds.{no_job}
use Rattle.scenario.proofs.AnswerSteps.{after-Ok}
use Rattle.world_files.specs.DataSets.{files_of, job_of, jobs_of, others_of, set_in, set_of}
use Rattle.world_files.specs.declared.reading.DataFile.{DataFile}
use Rattle.world_files.proofs.SetFiles.{files_of-others}

pub job-next : {A B : Type 0} (see : A → B) (give : ℕ → B) (jobs : List A) (job : A) (number n : ℕ) (whole : List B) → see job ≡ give number → map see jobs ++ map give (range_with_len number (suc n)) ≡ whole → map see (jobs ++ job ∷ []) ++ map give (range_with_len (number + 1) n) ≡ whole
job-next see give jobs job number n whole is joined =
    let seen : map see (jobs ++ job ∷ []) ≡ map see jobs ++ give number ∷ [] = map-append see jobs (job ∷ []) ∙ ap (λ b. map see jobs ++ b ∷ []) is in
    ap (λ front. front ++ map give (range_with_len (number + 1) n)) seen ∙ (append_assoc (map see jobs) (give number ∷ []) (map give (range_with_len (number + 1) n)) ∙ joined)

-- the files of the first set are none of the further ones'
pub others-jobs : (files : List DataFile) (number n : ℕ) → 1 < number → map (job_of (others_of 1 files)) (range_with_len number n) ≡ map (job_of files) (range_with_len number n)
others-jobs files number zero above = refl
others-jobs files number (suc n) above =
    let own : job_of (others_of 1 files) number ≡ job_of files number = ap set_of (files_of-others number 1 files (λ same. omega (arith, same, above))) in
    let rest = others-jobs files (number + 1) n (omega (arith, above)) in
    ap (λ job. job ∷ map (job_of (others_of 1 files)) (range_with_len (number + 1) n)) own ∙ ap (λ jobs. job_of files number ∷ jobs) rest

-- the first set of the jobs reads
pub first-reads : (files : List DataFile) (count : ℕ) (jobs : List (Result DataLists BadSet)) → jobs_of files count ≡ Ok jobs → IsOk (at_number no_job jobs 1)
first-reads files count jobs is =
    let (first, read, made) = after-Ok (set_in (files_of 1 files)) (λ first. Ok (Ok first ∷ map (job_of files) (range_with_len 2 (count - 1)))) jobs is in
    let same : Ok first ∷ map (job_of files) (range_with_len 2 (count - 1)) ≡ jobs = cc in
    rw (← same) refl

length-range : (from n : ℕ) → length (range_with_len from n) ≡ n
length-range from zero = refl
length-range from (suc n) = omega (arith, length-range (from + 1) n)

-- and there are as many as sets
pub as-many-jobs : (files : List DataFile) (count : ℕ) (jobs : List (Result DataLists BadSet)) → jobs_of files count ≡ Ok jobs → length jobs ≡ 1 + (count - 1)
as-many-jobs files count jobs is =
    let (first, read, made) = after-Ok (set_in (files_of 1 files)) (λ first. Ok (Ok first ∷ map (job_of files) (range_with_len 2 (count - 1)))) jobs is in
    let same : Ok first ∷ map (job_of files) (range_with_len 2 (count - 1)) ≡ jobs = cc in
    rw (← same) (omega (arith, length-map (range_with_len 2 (count - 1)) (job_of files), length-range 2 (count - 1)))
