-- What a report of a run, and of a replay, has gone through.
use Rattle.std.proofs.Common.{◌≡◌, ◌∙◌, ℕ, true, Bool, cond, List, [], ◌∷◌, Option, Some, None, Result, Ok, Err, map, length, refl, sym, ap, subst, inl, inr}
use Rattle.std.specs.Prelude.{IsOk, IsTrue, option_and_then}
use Rattle.std.proofs.lemmas.Bool.{cases_Bool}
use Rattle.mz_base.specs.declared.event.Event.{Event}
use Rattle.mz_base.specs.declared.status.Refusal.{Refusal}
use Rattle.mz_base.specs.declared.status.Refusal.TheVariants as refusal
use Rattle.run_meaning.specs.NoteLaws.{EventsAreNoted}
use Rattle.run_meaning.specs.Numbers.{at_number}
use Rattle.run_meaning.specs.Plays.{apply, is_complete, play, play_from}
use Rattle.run_meaning.specs.SeenLaws.{NamedNeverFall, SeenOnlyGrow}
use Rattle.run_meaning.specs.States.{State}
use Rattle.run_meaning.specs.VersionLaws.{LastIsUsed}
use Rattle.run_meaning.specs.Worlds.{World, job_at, no_job}
use Rattle.scenario.proofs.AnswerSteps.{after-Ok, if-Ok}
use Rattle.schedule.specs.declared.reader.Reading.{Reading}
use Rattle.world_files.specs.DataSets.{jobs_of}
use Rattle.world_files.specs.Reading.{Files}
use Rattle.world_files.specs.Users.{plans_from}
use Rattle.world_files.specs.Worlds.{built, replay, sources, world}
use Rattle.world_files.specs.declared.world.Replay.{Replay}
use Rattle.world_files.specs.declared.world.Sources.{Sources}
use Rattle.world_files.proofs.JobSteps.{first-reads}
use Rattle.mozc_cli.specs.Replays.{or_cut_short, or_illegal, or_unfinished, played_lines, up_to}
use Rattle.mozc_cli.specs.Reports.{IsReport}
use Rattle.mozc_cli.specs.Settles.{Output, limited, output_of}

-- ---- The first set of a world reads

built-reads : (read : Sources) (given : World) → built read ≡ Ok given → IsOk (job_at given 1)
unfolding built
built-reads read given is =
    let (jobs, are, made) = after-Ok (jobs_of read.files (length read.manifest.sets)) (λ jobs. Ok (record { jobs = jobs; users = plans_from read.reloads 1 read.manifest.users; clients = read.clients; certificates = read.manifest.certificates })) given is in
    let same : jobs ≡ given.jobs = cc in
    subst (λ all. IsOk (at_number no_job all 1)) same (first-reads read.files (length read.manifest.sets) jobs are)

pub world-reads : (files : Files) (name : List ℕ) (given : World) → world files name ≡ Ok given → IsOk (job_at given 1)
world-reads files name given is =
    let (read, reads, made) = after-Ok (sources files name) built given is in built-reads read given made

-- ---- What was written

either-Ok : {A E : Type 0} (test : Bool) (a b : A) (error : E) → cond test (Err error) (Ok a) ≡ Ok b → b ≡ a
either-Ok test a b error is =
    elim (cases_Bool test) [
      | inl holds ↦ let never : Err error ≡ Ok b = rw holds at is in absurd cc
      | inr fails ↦ let same : Ok a ≡ Ok b = rw fails at is in cc
    ]

pub limited-is : (shown output : Output) → limited shown ≡ Ok output → output ≡ shown
limited-is shown output is = either-Ok _ shown output _ is

-- ---- The lines of a schedule

legal-is : (line : ℕ) (found : Option State) (next : State) → or_illegal line found ≡ Ok next → found ≡ Some next
legal-is line None next is = absurd cc
legal-is line (Some state) next is = cc

pub lines-played : (world : World) (state last : State) (found : List (ℕ × Event)) → played_lines world state found ≡ Ok last → play_from world state (map (λ (f : ℕ × Event). f.1) found) ≡ Some last
lines-played world state last [] is = cc
lines-played world state last (first ∷ more) is =
    let (next, made, rest) = after-Ok (or_illegal first.0 (apply world state first.1)) (λ next. played_lines world next more) last is in
    let came = legal-is first.0 (apply world state first.1) next made in
    ap (option_and_then (λ next. play_from world next (map (λ (f : ℕ × Event). f.1) more))) came ∙ lines-played world next last more rest

read-all : (bad : Option ℕ) (state last : State) → up_to bad state ≡ Ok last → (bad ≡ None) × (state ≡ last)
read-all None state last is = (refl, cc)
read-all (Some line) state last is = absurd cc

-- each line reads, each event came, and nothing more
pub record IsFinished (world : World) (reading : Reading) (state last : State) : Type 0 where
  pub reads : reading.bad ≡ None
  pub complete : is_complete world last ≡ true
  pub same : state ≡ last

pub finished-is : (world : World) (reading : Reading) (state last : State) → or_unfinished world reading state ≡ Ok last → IsFinished world reading state last
finished-is world reading state last is =
    let (middle, up, cut) = after-Ok (up_to reading.bad state) (or_cut_short world reading.lines) last is in
    let (reads, first) = read-all reading.bad state middle up in
    let (complete, then) = if-Ok (is_complete world middle) middle last _ cut in
    record { reads = reads; complete = subst (λ s. is_complete world s ≡ true) then complete; same = first ∙ then }

-- ---- A report

pub report-of : (world : World) (events : List Event) (state : State) (output : Output) → play world events ≡ Some state → is_complete world state ≡ true → output ≡ output_of state.logs → EventsAreNoted → LastIsUsed → NamedNeverFall → SeenOnlyGrow → IsReport world events output
report-of world events state output played complete text noted used rise grow = record {
  state = state;
  played = played;
  complete = complete;
  printed = noted world events state played;
  text = text;
  one_version = λ client. used world events state client played;
  jobs_rise = λ client. rise world events state client played;
  journals_grow = λ client. grow world events state client played;
}
