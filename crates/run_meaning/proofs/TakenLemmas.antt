-- What the deeds of a client make of its data and its lines.
use Rattle.std.proofs.Common.{◌≡◌, refl, sym, ap, subst, ◌∙◌, inl, inr, ◌⊎◌, ⊎_elim, ℕ, ◌≤◌, Bool, true, false, All, List, [], ◌∷◌, ◌++◌, Option, Some, None, length, take, append_assoc, append-nil, option_map}
use Rattle.std.specs.Prelude.{◌&&◌, IsTrue, if◌then◌else◌, is_none, nat_le, nat_lt, not, unwrap_or}
use Rattle.std.specs.List.{AllZip, cons_option, fold}
use Rattle.std.specs.Option.{option_map_or}
use Rattle.std.proofs.lemmas.Bool.{and_parts, eq-eqb, false≢true, not-true, true≢false}
use Rattle.std.proofs.lemmas.List.{take-append-le}
use Rattle.std.proofs.lemmas.List.Elements.{All-head, All-tail}
use Rattle.std.proofs.lemmas.Option.{none-some, same_Some}
use Rattle.mz_base.specs.declared.event.Event.{Event}
use Rattle.mz_base.specs.declared.event.Event.TheVariants as event
use Rattle.mz_base.specs.declared.logs.CertEntry.{CertEntry}
use Rattle.mz_base.specs.declared.logs.Own.{Own}
use Rattle.mz_base.specs.declared.logs.UserEntry.{UserEntry}
use Rattle.mz_base.specs.declared.report.Line.{Line}
use Rattle.keys.specs.declared.command.Command.{Command}
use Rattle.session_meaning.specs.Laws.{is_taken, pinned_in}
use Rattle.session_meaning.specs.Stages.{Pinned, Session, Stage, C, P, V, mode_of, version_of}
use Rattle.session_meaning.specs.Steps.{step}
use Rattle.session_meaning.proofs.DataLemmas.{kept-step}
use Rattle.session_meaning.proofs.StepLemmas.{mode-step, version-step}
use Rattle.run_meaning.specs.Deeds.{Deed, Awaits, FindsNone, awaited_by, certified_by, does, is_empty, lacks_learn, lacks_take, may, need_of, over, stepped, with_certificate}
use Rattle.run_meaning.specs.Jobs.{newest}
use Rattle.run_meaning.specs.SeenLaws.{is_take, length_seen}
use Rattle.run_meaning.specs.States.{Client, Progress, State, journal_of}
use Rattle.run_meaning.specs.Users.{data_of}
use Rattle.run_meaning.specs.VersionLaws.{AreStill, data_after, job_after, job_taken, jobs_at_lines, makes_line, takes, version_in}
use Rattle.run_meaning.specs.Worlds.{World, user_of}
use Rattle.run_meaning.proofs.EventKinds.{IsDeed, awaiting, ending, finding_none, learning, stepping, taking}
use Rattle.run_meaning.proofs.RisingLemmas.{all-seen}
use Rattle.run_meaning.proofs.SeenLemmas.{lengths_seen}
use Rattle.run_meaning.proofs.SoloLemmas.{own_of}
use Rattle.run_meaning.proofs.StepDataLemmas.{new-step, waits-take-none}

-- ---- A command over

-- the client after a step, but for its certificates
abbrev after_step : Client → Command → Client
after_step client c =
    let made = step client.progress.session c client.progress.taken in over client made.session made.line

stepped-progress : (client : Client) (c : Command) (more : List Command) → (stepped client (c ∷ more)).progress ≡ (after_step client c).progress
stepped-progress client c more = by_certificate (certified_by client client.progress.rest)
  where
    by_certificate : (o : Option CertEntry) → (with_certificate (after_step client c) o).progress ≡ (after_step client c).progress
    by_certificate None = refl
    by_certificate (Some made) = refl

stepped-lines : (client : Client) (c : Command) (more : List Command) → (stepped client (c ∷ more)).log.lines ≡ (after_step client c).log.lines
stepped-lines client c more = by_certificate (certified_by client client.progress.rest)
  where
    by_certificate : (o : Option CertEntry) → (with_certificate (after_step client c) o).log.lines ≡ (after_step client c).log.lines
    by_certificate None = refl
    by_certificate (Some made) = refl

-- ---- What a client has taken

pub record Has (p : Progress) (last : Option Pinned) : Type 0 where
  pub waiting : (pinned : Pinned) → p.taken ≡ Some pinned → last ≡ Some pinned
  pub needed : (pinned : Pinned) → p.taken ≡ Some pinned → is_taken (need_of p.session p.rest) ≡ true
  pub composing : p.taken ≡ None → AreStill last (pinned_in p.session.stage)

-- data that stay are still the last, where they were
still-last : (last before now : Option Pinned) → AreStill last before → (now ≡ before) ⊎ (now ≡ None) → AreStill last now
still-last last before now are stays = ⊎_elim (λ same. ⊎_elim (λ it. inl (same ∙ it)) (λ none. inr (same ∙ none)) are) (λ none. inr none) stays

-- without a take a step leaves data as they are
step-stays : (s : Session) (c : Command) (taken : Option Pinned) → taken ≡ None → AreStill (pinned_in s.stage) (pinned_in (step s c taken).session.stage)
step-stays s c taken none = ⊎_elim (λ same. inl same) (λ new. ⊎_elim (λ it. inr (it ∙ none)) (λ gone. inr gone) new) (kept-step s c taken)

-- a step ends with the last
step-last : (p : Progress) (c : Command) (more : List Command) (last : Option Pinned) → p.rest ≡ c ∷ more → Has p last → AreStill last (pinned_in (step p.session c p.taken).session.stage)
step-last p c more last is has = by_taken p.taken refl
  where
    by_taken : (o : Option Pinned) → p.taken ≡ o → AreStill last (pinned_in (step p.session c p.taken).session.stage)
    by_taken None none =
        still-last last (pinned_in p.session.stage) (pinned_in (step p.session c p.taken).session.stage) (has.composing none) (step-stays p.session c p.taken none)
    by_taken (Some pinned) some =
        let needs_it : is_taken (need_of p.session (c ∷ more)) ≡ true = ap (λ rest. is_taken (need_of p.session rest)) (sym is) ∙ has.needed pinned some in
        ⊎_elim (λ new. inl (new ∙ some ∙ sym (has.waiting pinned some))) (λ none. inr none) (new-step p.session c p.taken needs_it)

-- a wait takes none, so that what is composed has the last
wait-last : (p : Progress) (last : Option Pinned) (wanted : ℕ) → awaited_by p.rest ≡ Some wanted → Has p last → AreStill last (pinned_in p.session.stage)
wait-last p last wanted waits has = by_taken p.taken refl
  where
    by_taken : (o : Option Pinned) → p.taken ≡ o → AreStill last (pinned_in p.session.stage)
    by_taken None none = has.composing none
    by_taken (Some pinned) some = absurd (waits-take-none p.session p.rest wanted waits (has.needed pinned some))

pub wait-some : (f : ℕ → Bool) (o : Option ℕ) → option_map_or f o false ≡ true → (wanted : ℕ) × (o ≡ Some wanted)
wait-some f None is = absurd (false≢true is)
wait-some f (Some wanted) is = (wanted, refl)

-- where nothing is taken
has-none : (p : Progress) (last : Option Pinned) → p.taken ≡ None → AreStill last (pinned_in p.session.stage) → Has p last
has-none p last none are =
    record {
      waiting = λ pinned is. absurd (none-some pinned (sym none ∙ is));
      needed = λ pinned is. absurd (none-some pinned (sym none ∙ is));
      composing = λ is. are;
    }

has-stepped : (client : Client) (commands : List Command) (last : Option Pinned) → client.progress.rest ≡ commands → Has client.progress last → Has (stepped client commands).progress last
has-stepped client [] last is has = has
has-stepped client (c ∷ more) last is has =
    subst (λ p. Has p last) (sym (stepped-progress client c more)) (has-none (after_step client c).progress last refl (step-last client.progress c more last is has))

pub has-does : (world : World) (s : State) (c : ℕ) (client : Client) (e : Event) (given : Bool) (deed : Deed) (last : Option Pinned) → IsDeed world s c e given deed → IsTrue (may client deed) → Has client.progress last → Has (does client deed).progress (data_after world (user_of world c) (journal_of s (user_of world c)) last (own_of e deed))
unfolding may
has-does world s c client e given deed last learning comes has =
    record { waiting = has.waiting; needed = has.needed; composing = has.composing }
has-does world s c client e given deed last (taking job) comes has =
    let user = user_of world c in
    let journal = journal_of s user in
    let lacks = and_parts (lacks_take client.progress) (not (lacks_learn client.progress) && nat_le client.progress.seen job) comes in
    let needed = and_parts (is_taken (need_of client.progress.session client.progress.rest)) (is_none client.progress.taken) lacks.0 in
    record {
      waiting = λ pinned is. ap (λ entries. Some (data_of world user job entries)) (all-seen journal) ∙ is;
      needed = λ pinned is. needed.0;
      composing = λ none. absurd (none-some (data_of world user job journal) (sym none));
    }
has-does world s c client e given deed last stepping comes has = has-stepped client client.progress.rest last refl has
has-does world s c client e given deed last (awaiting job) comes has =
    let found = wait-some (λ wanted. nat_le wanted job && nat_le client.progress.seen job) (awaited_by client.progress.rest) comes in
    has-none (does client (Awaits job)).progress last refl (wait-last client.progress last found.0 found.1 has)
has-does world s c client e given deed last finding_none comes has =
    let found = wait-some (λ wanted. nat_lt (newest s.logs.jobs) wanted) (awaited_by client.progress.rest) comes in
    has-none (does client (FindsNone (newest s.logs.jobs))).progress last refl (wait-last client.progress last found.0 found.1 has)
has-does world s c client e given deed last ending comes has =
    record { waiting = has.waiting; needed = has.needed; composing = has.composing }

-- ---- Without a take

pub stays-does : (world : World) (s : State) (c : ℕ) (client : Client) (e : Event) (given : Bool) (deed : Deed) → IsDeed world s c e given deed → takes c e ≡ false → client.progress.taken ≡ None → AreStill (pinned_in client.progress.session.stage) (pinned_in (does client deed).progress.session.stage) × ((does client deed).progress.taken ≡ None)
stays-does world s c client e given deed learning takes none = (inl refl, none)
stays-does world s c client e given deed (taking job) takes none = absurd (true≢false (sym (eq-eqb c c refl) ∙ takes))
stays-does world s c client e given deed stepping takes none = by_rest client.progress.rest
  where
    by_rest : (commands : List Command) → AreStill (pinned_in client.progress.session.stage) (pinned_in (stepped client commands).progress.session.stage) × ((stepped client commands).progress.taken ≡ None)
    by_rest [] = (inl refl, none)
    by_rest (first ∷ more) =
        subst (λ (p : Progress). AreStill (pinned_in client.progress.session.stage) (pinned_in p.session.stage) × (p.taken ≡ None)) (sym (stepped-progress client first more)) (step-stays client.progress.session first client.progress.taken none, refl)
stays-does world s c client e given deed (awaiting job) takes none = (inl refl, refl)
stays-does world s c client e given deed finding_none takes none = (inl refl, refl)
stays-does world s c client e given deed ending takes none = (inl refl, none)

-- ---- With one

pub used-stepped : (client : Client) (commands : List Command) (last : Option Pinned) (pinned : Pinned) → client.progress.rest ≡ commands → Has client.progress last → client.progress.taken ≡ Some pinned → AreStill (Some pinned) (pinned_in (stepped client commands).progress.session.stage)
used-stepped client [] last pinned is has some =
    absurd (false≢true (ap (λ rest. is_taken (need_of client.progress.session rest)) (sym is) ∙ has.needed pinned some))
used-stepped client (c ∷ more) last pinned is has some =
    subst (λ (p : Progress). AreStill (Some pinned) (pinned_in p.session.stage)) (sym (stepped-progress client c more)) (subst (λ o. AreStill o (pinned_in (step client.progress.session c client.progress.taken).session.stage)) (has.waiting pinned some) (step-last client.progress c more last is has))

-- ---- The last take of own events

module _ (world : World) (user : ℕ) where
  -- its job is the version of its data
  pub last-version : (journal : List UserEntry) (own : List Own) (before : Option Pinned) (job : ℕ) → ((pinned : Pinned) → before ≡ Some pinned → pinned.version ≡ job) → (pinned : Pinned) → fold (data_after world user journal) before own ≡ Some pinned → pinned.version ≡ fold job_after job own
  last-version journal [] before job same pinned is = same pinned is
  last-version journal (o ∷ own) before job same pinned is =
      last-version journal own (data_after world user journal before o) (job_after job o) (by_taken (job_taken o.event)) pinned is
    where
      by_taken : (t : Option ℕ) (pinned : Pinned) → unwrap_or (option_map (λ job. Some (data_of world user job (take o.prefix journal))) t) before ≡ Some pinned → pinned.version ≡ unwrap_or t job
      by_taken None pinned is = same pinned is
      by_taken (Some next) pinned is =
          ap (λ (p : Pinned). p.version) (sym (same_Some (data_of world user next (take o.prefix journal)) pinned is))

  taken-or-none : (e : Event) → (is_take e ≡ true) ⊎ (job_taken e ≡ None)
  taken-or-none (event.Take c job) = inl refl
  taken-or-none (event.Job job outcome) = inr refl
  taken-or-none event.Close = inr refl
  taken-or-none (event.Dict user reload) = inr refl
  taken-or-none (event.Learn c) = inr refl
  taken-or-none (event.Step c) = inr refl
  taken-or-none (event.Await c job) = inr refl
  taken-or-none (event.NotYet c) = inr refl
  taken-or-none (event.End c) = inr refl

  -- all of some is all of the rest
  all-rest : (Holds : ℕ → Type 0) (o : Option ℕ) (ns : List ℕ) → All Holds (cons_option o ns) → All Holds ns
  all-rest Holds None ns all = all
  all-rest Holds (Some n) ns all = All-tail Holds n ns all

  -- data are the same where the journal has grown past what was seen
  same-data : (journal more : List UserEntry) (before : Option Pinned) (o : Own) → ((is_take o.event ≡ true) → o.prefix ≤ length journal) → data_after world user (journal ++ more) before o ≡ data_after world user journal before o
  same-data journal more before o within = ⊎_elim took took_none (taken-or-none o.event)
    where
      took : is_take o.event ≡ true → data_after world user (journal ++ more) before o ≡ data_after world user journal before o
      took is =
          ap (λ entries. unwrap_or (option_map (λ job. Some (data_of world user job entries)) (job_taken o.event)) before) (take-append-le o.prefix journal more (within is))

      took_none : job_taken o.event ≡ None → data_after world user (journal ++ more) before o ≡ data_after world user journal before o
      took_none none =
          ap (λ t. unwrap_or (option_map (λ job. Some (data_of world user job (take o.prefix (journal ++ more)))) t) before) none
          ∙ sym (ap (λ t. unwrap_or (option_map (λ job. Some (data_of world user job (take o.prefix journal))) t) before) none)

  pub same-last : (journal more : List UserEntry) (own : List Own) (before : Option Pinned) → All (λ n. n ≤ length journal) (lengths_seen own) → fold (data_after world user (journal ++ more)) before own ≡ fold (data_after world user journal) before own
  same-last journal more [] before within = refl
  same-last journal more (o ∷ own) before within =
      ap (λ next. fold (data_after world user (journal ++ more)) next own) (same-data journal more before o low)
      ∙ same-last journal more own (data_after world user journal before o) (all-rest (λ n. n ≤ length journal) (length_seen o) (lengths_seen own) within)
    where
      low : is_take o.event ≡ true → o.prefix ≤ length journal
      low is =
          All-head (λ n. n ≤ length journal) o.prefix (lengths_seen own) (subst (λ b. All (λ n. n ≤ length journal) (cons_option (if b then Some o.prefix else None) (lengths_seen own))) is within)

-- ---- Lines

abbrev pub HasVersion : Line → ℕ → Type 0
HasVersion line job = line.version ≡ version_in line.mode job

zip-push : (lines : List Line) (jobs : List ℕ) (line : Line) (job : ℕ) → AllZip HasVersion lines jobs → HasVersion line job → AllZip HasVersion (lines ++ line ∷ []) (jobs ++ job ∷ [])
zip-push [] [] line job all has = (has, tt)
zip-push [] (j ∷ jobs) line job all has = absurd all
zip-push (l ∷ lines) [] line job all has = absurd all
zip-push (l ∷ lines) (j ∷ jobs) line job all has = (all.0, zip-push lines jobs line job all.1 has)

zip-same : (lines : List Line) (jobs : List ℕ) → AllZip HasVersion lines jobs → AllZip HasVersion lines (jobs ++ [])
zip-same lines jobs all = subst (AllZip HasVersion lines) (sym (append-nil jobs)) all

-- a job more at a line
pub lines-more : (before : ℕ) (own : List Own) (o : Own) → jobs_at_lines before (own ++ o ∷ []) ≡ jobs_at_lines before own ++ (if makes_line o.event then fold job_after before own ∷ [] else [])
lines-more before [] o = append-nil (if makes_line o.event then before ∷ [] else [])
lines-more before (first ∷ own) o =
    let here : List ℕ = if makes_line first.event then before ∷ [] else [] in
    let next = job_after before first in
    ap (λ rest. here ++ rest) (lines-more next own o)
    ∙ sym (append_assoc here (jobs_at_lines next own) (if makes_line o.event then fold job_after next own ∷ [] else []))

-- the version of a stage with the last data
stage-version : (stage : Stage) (last : Option Pinned) (job : ℕ) → AreStill last (pinned_in stage) → ((pinned : Pinned) → last ≡ Some pinned → pinned.version ≡ job) → version_of stage ≡ version_in (mode_of stage) job
stage-version P last job are version = refl
stage-version (C c) last job are version = ⊎_elim (λ same. version c.pinned (sym same)) (λ none. absurd (none-some c.pinned (sym none))) are
stage-version (V c v) last job are version = ⊎_elim (λ same. version c.pinned (sym same)) (λ none. absurd (none-some c.pinned (sym none))) are

module _ (client : Client) (last : Option Pinned) (job : ℕ) (jobs : List ℕ)
    (has : Has client.progress last)
    (version : (pinned : Pinned) → last ≡ Some pinned → pinned.version ≡ job)
    (all : AllZip HasVersion client.log.lines jobs)
  where
    lines-stepped : (commands : List Command) → client.progress.rest ≡ commands → is_empty commands ≡ false → AllZip HasVersion (stepped client commands).log.lines (jobs ++ job ∷ [])
    lines-stepped [] is some = absurd (true≢false some)
    lines-stepped (c ∷ more) is some =
        let p = client.progress in
        let made = step p.session c p.taken in
        let shown : HasVersion made.line job = version-step p.session c p.taken ∙ stage-version made.session.stage last job (step-last p c more last is has) version ∙ ap (λ m. version_in m job) (sym (mode-step p.session c p.taken)) in
        subst (λ lines. AllZip HasVersion lines (jobs ++ job ∷ [])) (sym (stepped-lines client c more)) (zip-push client.log.lines jobs made.line job all shown)

    pub lines-does : (world : World) (s : State) (c : ℕ) (e : Event) (given : Bool) (deed : Deed) → IsDeed world s c e given deed → IsTrue (may client deed) → AllZip HasVersion (does client deed).log.lines (jobs ++ (if makes_line e then job ∷ [] else []))
    unfolding may
    lines-does world s c e given deed learning comes = zip-same client.log.lines jobs all
    lines-does world s c e given deed (taking j) comes = zip-same client.log.lines jobs all
    lines-does world s c e given deed stepping comes =
        let p = client.progress in
        let some = not-true (is_empty p.rest) (and_parts (not (is_empty p.rest)) (is_none (awaited_by p.rest) && (not (lacks_learn p) && not (lacks_take p))) comes).0 in
        lines-stepped p.rest refl some
    lines-does world s c e given deed (awaiting j) comes =
        let p = client.progress in
        let found = wait-some (λ wanted. nat_le wanted j && nat_le p.seen j) (awaited_by p.rest) comes in
        zip-push client.log.lines jobs _ job all (stage-version p.session.stage last job (wait-last p last found.0 found.1 has) version)
    lines-does world s c e given deed finding_none comes =
        let p = client.progress in
        let found = wait-some (λ wanted. nat_lt (newest s.logs.jobs) wanted) (awaited_by p.rest) comes in
        zip-push client.log.lines jobs _ job all (stage-version p.session.stage last job (wait-last p last found.0 found.1 has) version)
    lines-does world s c e given deed ending comes = zip-same client.log.lines jobs all
