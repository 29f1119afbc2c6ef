-- How a run serves its clients.
use Rattle.std.proofs.Common.{◌≡◌, refl, sym, ap, subst, ◌∙◌, inl, inr, ◌⊎◌, ⊎_elim, ℕ, zero, suc, ◌+◌, ◌<◌, ◌≤◌, Bool, true, false, List, [], ◌∷◌, ◌++◌, Option, Some, None, Result, Ok, Err, length, map, arith, append_assoc, append-nil}
use Rattle.std.specs.Prelude.{◌&&◌, IsErr, IsOk, IsTrue, fold, if◌then◌else◌, is_none, nat_le, nat_lt, not}
use Rattle.std.specs.List.{list_all, range_with_len}
use Rattle.std.proofs.lemmas.Bool.{and_from, cases_eq, le-leb, leb-false, leb-true, lt-ltb, not_from_false, true≢false}
use Rattle.mz_base.specs.Data.{DataLists}
use Rattle.mz_base.specs.declared.event.Event.{Event}
use Rattle.mz_base.specs.declared.event.Event.TheVariants as event
use Rattle.mz_base.specs.declared.logs.CertEntry.{CertEntry}
use Rattle.mz_base.specs.declared.logs.ClientLog.{ClientLog}
use Rattle.mz_base.specs.declared.report.Line.{Line}
use Rattle.mz_base.specs.declared.status.BadSet.{BadSet}
use Rattle.keys.specs.declared.command.Command.{Command}
use Rattle.keys.specs.declared.command.Command.TheVariants as command
use Rattle.session_meaning.specs.Laws.{is_learned, is_taken}
use Rattle.session_meaning.specs.Stages.{Pinned, Session, opening}
use Rattle.session_meaning.specs.Steps.{needs, step}
use Rattle.session_meaning.specs.declared.need.Need.{Need}
use Rattle.session_meaning.specs.declared.need.Need.TheVariants as need
use Rattle.run_meaning.specs.Deeds.{Deed, Awaits, Ends, FindsNone, Learns, Steps, Takes, awaited_by, awaited_line, certified_by, done, may, not_yet_line, noted, over, with_certificate}
use Rattle.run_meaning.specs.Jobs.{is_logged, is_published, newest}
use Rattle.run_meaning.specs.Numbers.{at_number, is_number, numbers}
use Rattle.run_meaning.specs.OrderLaws.{AreEnds, IsEnd, IsWaitEnd, not_reached, reached}
use Rattle.run_meaning.specs.Orders.{all_made, answered, before_step, made, obeyed, served, then_closed, waited}
use Rattle.run_meaning.specs.Plays.{apply, by_client, did, has_ended, is_close_legal, provided}
use Rattle.run_meaning.specs.States.{Client, State, begun_with, client_at, client_log, is_open, journal_of, no_client_log, progress_of, start}
use Rattle.run_meaning.specs.Users.{data_of}
use Rattle.run_meaning.specs.Worlds.{ClientPlan, World, client_plan, job_at, no_client, user_of}
use Rattle.run_meaning.proofs.ClientLemmas.{as-many-play, own-did, with_made}
use Rattle.run_meaning.proofs.EventKinds.{IsDeed, after_close, awaiting, ending, finding_none, learning, stepping, taking}
use Rattle.run_meaning.proofs.GrowthLemmas.{client-is}
use Rattle.run_meaning.proofs.LogAnswers.{newest_is_highest, sound-play}
use Rattle.run_meaning.proofs.LogLemmas.{IsSoundLog}
use Rattle.run_meaning.proofs.MadeLemmas.{made-legal}
use Rattle.run_meaning.proofs.RunningLemmas.{AllCame, Goes, HasWaited, IsRunning, IsSettled, any-grown, goes-made, goes-refl, goes-trans, goes-widen, is_coming, jobs-made, left-by, number-parts, number-reads, settled-stays, wait-ends}

-- what stands at each number of a list that was mapped
pub at-map : {A B : Type 0} (f : A → B) (none : A) (xs : List A) (n : ℕ) → at_number (f none) (map f xs) n ≡ f (at_number none xs n)
at-map f none xs zero = refl
at-map f none [] (suc place) = refl
at-map f none (x ∷ xs) (suc zero) = refl
at-map f none (x ∷ xs) (suc (suc place)) = at-map f none xs (suc place)

pub all-from : (p : ℕ → Bool) (n a : ℕ) → ((j : ℕ) → a ≤ j → j < a + n → p j ≡ true) → list_all p (range_with_len a n) ≡ true
all-from p zero a each = refl
all-from p (suc n) a each =
    and_from (p a) (list_all p (range_with_len (a + 1) n)) (each a (omega arith) (omega arith)) (all-from p n (a + 1) (λ j low high. each j (omega (arith, low)) (omega (arith, high))))

err-from : (o : Result DataLists BadSet) → (IsOk o → ⊥) → IsErr o
err-from (Ok lists) never = absurd (never refl)
err-from (Err bad) never = refl

-- a client with this session, these commands to come, and this come for the next
abbrev pub standing : ℕ → Session → List Command → Bool → Option Pinned → ℕ → ℕ → ClientLog → Option (List CertEntry) → Client
standing c session rest learned taken seen learns log certificates =
    record {
      number = c;
      progress =
          record { session = session; rest = rest; learned = learned; taken = taken; seen = seen; learns = learns; ended = false };
      log = log;
      certificates = certificates;
    }

pub with-same : (client : Client) (made : Option CertEntry) → with_certificate client made ≡ record client { certificates = with_made client.certificates made }
with-same client None = refl
with-same client (Some made) = refl

deed-comes : (world : World) (s : State) (c : ℕ) (e : Event) (given : Bool) (deed : Deed) → IsDeed world s c e given deed → is_coming e ≡ false
deed-comes world s c e given deed learning = refl
deed-comes world s c e given deed (taking job) = refl
deed-comes world s c e given deed stepping = refl
deed-comes world s c e given deed (awaiting job) = refl
deed-comes world s c e given deed finding_none = refl
deed-comes world s c e given deed ending = refl

module _ (world : World) where
  -- ---- A deed that may come is done

  by-client-legal : (s : State) (c : ℕ) (e : Event) (given : Bool) (deed : Deed) → IsTrue (is_open s) → given ≡ true → IsTrue (is_number s.clients c) → may (client_at s c) deed ≡ true → by_client world s given c deed e ≡ Some (did world s c deed e)
  unfolding by_client provided
  by-client-legal s c e given deed opens there number can =
      ap (λ b. if b then Some (did world s c deed e) else None) (and_from (is_open s) _ opens (and_from given _ there (and_from (is_number s.clients c) (may (client_at s c) deed) number can)))

  pub legal-deed : (s : State) (c : ℕ) (e : Event) (given : Bool) (deed : Deed) → IsDeed world s c e given deed → IsTrue (is_open s) → given ≡ true → IsTrue (is_number s.clients c) → may (client_at s c) deed ≡ true → apply world s e ≡ Some (did world s c deed e)
  unfolding apply
  legal-deed s c e given deed learning opens there number can = by-client-legal s c e given deed opens there number can
  legal-deed s c e given deed (taking job) opens there number can = by-client-legal s c e given deed opens there number can
  legal-deed s c e given deed stepping opens there number can = by-client-legal s c e given deed opens there number can
  legal-deed s c e given deed (awaiting job) opens there number can = by-client-legal s c e given deed opens there number can
  legal-deed s c e given deed finding_none opens there number can = by-client-legal s c e given deed opens there number can
  legal-deed s c e given deed ending opens there number can = by-client-legal s c e given deed opens there number can

  -- what a deed of a client leads to
  pub record Moves (c : ℕ) (s t : State) (Now : Type 0) : Type 0 where
    pub goes : Goes world c s t
    pub jobs : t.logs.jobs ≡ s.logs.jobs
    pub now : Now

  pub do-deed : (s : State) (c : ℕ) (e : Event) (given : Bool) (deed : Deed) (client : Client) → IsRunning world s → IsTrue (is_number world.clients c) → client_at s c ≡ client → IsDeed world s c e given deed → given ≡ true → may client deed ≡ true → Moves c s (made world s e) (client_at (made world s e) c ≡ done client e deed)
  do-deed s c e given deed client running number same is there can =
      let in_state : IsTrue (is_number s.clients c) = subst (λ n. (nat_lt 0 c && nat_le c n) ≡ true) (sym running.clients) number in
      let legal = legal-deed s c e given deed is running.begun there in_state (subst (λ x. may x deed ≡ true) (sym same) can) in
      let after = ap (λ t. client_at t c) (made-legal world s (did world s c deed e) e legal) in
      record {
        goes = subst (λ n. Goes world n s (made world s e)) (client-is world s c e given deed is) (goes-made world s e running);
        jobs = jobs-made world s e (deed-comes world s c e given deed is);
        now = after ∙ own-did world s c e deed in_state (as-many-play world s.logs.events s running.played) ∙ ap (λ x. done x e deed) same;
      }

  -- ---- The newest job

  sound-of : (s : State) → IsRunning world s → IsSoundLog world s.logs.jobs
  sound-of s running = sound-play world s.logs.events s running.played

  newest-published : (s : State) → IsRunning world s → is_published s.logs.jobs (newest s.logs.jobs) ≡ true
  newest-published s running =
      let sound = sound-of s running in
      let first = sound.bounded 1 running.begun in
      ⊎_elim (λ zero_yet. absurd (omega (arith, first, zero_yet))) (λ stands. stands) sound.stands

  abbrev IsFresh : State → ℕ → Type 0
  IsFresh s seen = (seen ≡ 0) ⊎ (is_published s.logs.jobs seen ≡ true)

  fresh-low : (s : State) (seen : ℕ) → IsRunning world s → IsFresh s seen → nat_le seen (newest s.logs.jobs) ≡ true
  fresh-low s seen running fresh =
      le-leb seen (newest s.logs.jobs) (⊎_elim (λ none. omega (arith, none)) (λ stands. (sound-of s running).bounded seen stands) fresh)

  fresh-stays : (c : ℕ) (s t : State) (seen : ℕ) → Goes world c s t → IsFresh s seen → IsFresh t seen
  fresh-stays c s t seen goes fresh =
      ⊎_elim (λ none. inl none) (λ stands. inr (any-grown _ s.logs.jobs t.logs.jobs goes.grown.jobs stands)) fresh

  -- ---- Lines so far

  ends-more : (before : List Command) (lines : List Line) (next : Command) (line : Line) → AreEnds world before lines → IsEnd world next line → AreEnds world (before ++ next ∷ []) (lines ++ line ∷ [])
  ends-more [] [] next line so_far end = (end, tt)
  ends-more [] (first ∷ lines) next line so_far end = absurd so_far
  ends-more (c ∷ before) [] next line so_far end = absurd so_far
  ends-more (c ∷ before) (first ∷ lines) next line so_far end = (so_far.0, ends-more before lines next line so_far.1 end)

  -- a client in its work: `before` are the commands that it has carried out
  pub record IsAtWork (s : State) (c : ℕ) (before rest : List Command) (session : Session) (learned : Bool) (taken : Option Pinned) : Type 0 where
    pub seen : ℕ
    pub learns : ℕ
    pub log : ClientLog
    pub certificates : Option (List CertEntry)
    pub is : client_at s c ≡ standing c session rest learned taken seen learns log certificates
    pub fresh : IsFresh s seen
    pub ends : AreEnds world before log.lines

  -- between two commands
  pub record IsServed (s : State) (c : ℕ) (before rest : List Command) : Type 0 where
    pub session : Session
    pub at_work : IsAtWork s c before rest session false None

  -- ---- One command but a wait

  module _ (c : ℕ) (before : List Command) (next : Command) (rest : List Command) (number : IsTrue (is_number world.clients c)) where
    learn-done : (s : State) (session : Session) → IsRunning world s → IsAtWork s c before (next ∷ rest) session false None → is_learned (needs session next) ≡ true → Moves c s (made world s (event.Learn c)) (IsAtWork (made world s (event.Learn c)) c before (next ∷ rest) session true None)
    unfolding done may
    learn-done s session running work learned =
        let client = standing c session (next ∷ rest) false None work.seen work.learns work.log work.certificates in
        let move = do-deed s c (event.Learn c) true Learns client running number work.is learning refl (and_from (is_learned (needs session next)) true learned refl) in
        record {
          goes = move.goes;
          jobs = move.jobs;
          now = record { seen = work.seen; learns = work.learns + 1; log = _; certificates = work.certificates; is = move.now; fresh = fresh-stays c s (made world s (event.Learn c)) work.seen move.goes work.fresh; ends = work.ends };
        }

    abbrev taken_in : State → ℕ → Pinned
    taken_in s job = data_of world (user_of world c) job (journal_of s (user_of world c))

    take-done : (s : State) (session : Session) (learned : Bool) (job : ℕ) → job ≡ newest s.logs.jobs → IsRunning world s → IsAtWork s c before (next ∷ rest) session learned None → is_taken (needs session next) ≡ true → (is_learned (needs session next) && not learned) ≡ false → Moves c s (made world s (event.Take c job)) (IsAtWork (made world s (event.Take c job)) c before (next ∷ rest) session learned (Some (taken_in s job)))
    unfolding done may
    take-done s session learned job newest_is running work taken free =
        let client = standing c session (next ∷ rest) learned None work.seen work.learns work.log work.certificates in
        let published : is_published s.logs.jobs job ≡ true = subst (λ n. is_published s.logs.jobs n ≡ true) (sym newest_is) (newest-published s running) in
        let low : nat_le work.seen job ≡ true = subst (λ n. nat_le work.seen n ≡ true) (sym newest_is) (fresh-low s work.seen running work.fresh) in
        let move = do-deed s c (event.Take c job) (is_published s.logs.jobs job) (Takes (taken_in s job) (length (journal_of s (user_of world c)))) client running number work.is (taking job) published (and_from (is_taken (needs session next) && true) _ (and_from (is_taken (needs session next)) true taken refl) (and_from (not (is_learned (needs session next) && not learned)) _ (not_from_false (is_learned (needs session next) && not learned) free) low)) in
        record {
          goes = move.goes;
          jobs = move.jobs;
          now = record { seen = job; learns = work.learns; log = _; certificates = work.certificates; is = move.now; fresh = inr (any-grown _ s.logs.jobs (made world s (event.Take c job)).logs.jobs move.goes.grown.jobs published); ends = work.ends };
        }

    step-done : (s : State) (session : Session) (learned : Bool) (taken : Option Pinned) → IsRunning world s → IsAtWork s c before (next ∷ rest) session learned taken → is_none (awaited_by (next ∷ rest)) ≡ true → ((line : Line) → IsEnd world next line) → (is_learned (needs session next) && not learned) ≡ false → (is_taken (needs session next) && is_none taken) ≡ false → Moves c s (made world s (event.Step c)) (IsServed (made world s (event.Step c)) c (before ++ next ∷ []) rest)
    unfolding done may
    step-done s session learned taken running work no_wait any_end learn_came take_came =
        let client = standing c session (next ∷ rest) learned taken work.seen work.learns work.log work.certificates in
        let can : may client Steps ≡ true = and_from (is_none (awaited_by (next ∷ rest))) _ no_wait (and_from (not (is_learned (needs session next) && not learned)) _ (not_from_false _ learn_came) (not_from_false _ take_came)) in
        let move = do-deed s c (event.Step c) true Steps client running number work.is stepping refl can in
        let after = step session next taken in
        let last = over client after.session after.line in
        let certified = certified_by client (next ∷ rest) in
        record {
          goes = move.goes;
          jobs = move.jobs;
          now =
              record {
                session = after.session;
                at_work =
                    record {
                      seen = work.seen;
                      learns = work.learns;
                      log = (noted last (event.Step c) 0).log;
                      certificates = with_made work.certificates certified;
                      is = move.now ∙ ap (λ x. noted x (event.Step c) 0) (with-same last certified);
                      fresh = fresh-stays c s (made world s (event.Step c)) work.seen move.goes work.fresh;
                      ends = ends-more before work.log.lines next after.line work.ends (any_end after.line);
                    };
              };
        }

    -- what it needs before, and its step
    needed : (s : State) (session : Session) (n : Need) → needs session next ≡ n → IsRunning world s → IsAtWork s c before (next ∷ rest) session false None → is_none (awaited_by (next ∷ rest)) ≡ true → ((line : Line) → IsEnd world next line) → let t = all_made world s (before_step n c (newest s.logs.jobs) ++ event.Step c ∷ []) in Moves c s t (IsServed t c (before ++ next ∷ []) rest)
    needed s session need.Nothing is running work no_wait any_end =
        step-done s session false None running work no_wait any_end (ap (λ n. is_learned n && true) is) (ap (λ n. is_taken n && true) is)
    needed s session need.Learn is running work no_wait any_end =
        let t = made world s (event.Learn c) in
        let one = learn-done s session running work (ap is_learned is) in
        let two = step-done t session true None one.goes.running one.now no_wait any_end (ap (λ n. is_learned n && false) is) (ap (λ n. is_taken n && true) is) in
        record { goes = goes-trans world c s t (made world t (event.Step c)) one.goes two.goes; jobs = two.jobs ∙ one.jobs; now = two.now }
    needed s session need.Take is running work no_wait any_end =
        let job = newest s.logs.jobs in
        let t = made world s (event.Take c job) in
        let one = take-done s session false job refl running work (ap is_taken is) (ap (λ n. is_learned n && true) is) in
        let two = step-done t session false (Some (taken_in s job)) one.goes.running one.now no_wait any_end (ap (λ n. is_learned n && true) is) (ap (λ n. is_taken n && false) is) in
        record { goes = goes-trans world c s t (made world t (event.Step c)) one.goes two.goes; jobs = two.jobs ∙ one.jobs; now = two.now }
    needed s session need.LearnThenTake is running work no_wait any_end =
        let job = newest s.logs.jobs in
        let t = made world s (event.Learn c) in
        let u = made world t (event.Take c job) in
        let one = learn-done s session running work (ap is_learned is) in
        let two = take-done t session true job (ap newest (sym one.jobs)) one.goes.running one.now (ap is_taken is) (ap (λ n. is_learned n && false) is) in
        let three = step-done u session true (Some (taken_in t job)) two.goes.running two.now no_wait any_end (ap (λ n. is_learned n && false) is) (ap (λ n. is_taken n && false) is) in
        record {
          goes = goes-trans world c s t (made world u (event.Step c)) one.goes (goes-trans world c t u (made world u (event.Step c)) two.goes three.goes);
          jobs = three.jobs ∙ two.jobs ∙ one.jobs;
          now = three.now;
        }

  -- ---- The close

  pub record HasClosed (s t : State) : Type 0 where
    pub goes : Goes world 0 s t
    pub jobs : t.logs.jobs ≡ s.logs.jobs
    pub closed : IsTrue t.logs.closed

  pub then-closed : (s : State) → IsRunning world s → AllCame world s (length world.jobs + 1) → HasClosed s (then_closed world s)
  unfolding apply provided
  then-closed s running all = by_test s.logs.closed refl
    where
      logged : list_all (is_logged s.logs.jobs) (numbers (length world.jobs)) ≡ true
      logged = all-from (is_logged s.logs.jobs) (length world.jobs) 1 (λ j low high. (all j (omega (arith, low)) (omega (arith, high))).logged)

      by_test : (b : Bool) → s.logs.closed ≡ b → HasClosed s (if b then s else made world s event.Close)
      by_test true is = record { goes = goes-refl world 0 s running; jobs = refl; closed = is }
      by_test false is =
          let legal : is_close_legal world s ≡ true = and_from (is_open s) _ running.begun (and_from (list_all (is_logged s.logs.jobs) (numbers (length world.jobs))) _ logged (not_from_false s.logs.closed is)) in
          record {
            goes = goes-made world s event.Close running;
            jobs = jobs-made world s event.Close refl;
            closed = subst (λ t. t.logs.closed ≡ true) (sym (made-legal world s (after_close s) event.Close (ap (λ b. if b then Some (after_close s) else None) legal))) refl;
          }

  -- ---- A command is obeyed

  pub record IsObeyed (c : ℕ) (before rest : List Command) (s t : State) : Type 0 where
    pub goes : Goes world c s t
    pub settled : IsSettled world t
    pub served : IsServed t c before rest

  module _ (c : ℕ) (before rest : List Command) (number : IsTrue (is_number world.clients c)) where
    other : (next : Command) (s : State) → IsRunning world s → IsSettled world s → IsServed s c before (next ∷ rest) → is_none (awaited_by (next ∷ rest)) ≡ true → ((line : Line) → IsEnd world next line) → IsObeyed c (before ++ next ∷ []) rest s (all_made world s (before_step (needs (progress_of s c).session next) c (newest s.logs.jobs) ++ event.Step c ∷ []))
    unfolding client_at
    other next s running settled was no_wait any_end =
        let n = needs (progress_of s c).session next in
        let same : needs was.session next ≡ n = ap (λ (client : Client). needs client.progress.session next) (sym was.at_work.is) in
        let all = needed c before next rest number s was.session n same running was.at_work no_wait any_end in
        record { goes = all.goes; settled = settled-stays world s _ all.goes.grown all.jobs settled; served = all.now }

    awaited : (wanted : ℕ) (s : State) → IsRunning world s → IsSettled world s → IsServed s c before (command.Await wanted ∷ rest) → IsObeyed c (before ++ command.Await wanted ∷ []) rest s (answered world c wanted (waited world s wanted))
    unfolding done may
    awaited wanted s running settled was = by_test (nat_le wanted job) refl
      where
        t : State
        t = waited world s wanted

        job : ℕ
        job = newest t.logs.jobs

        has : HasWaited world wanted (length world.jobs + 1) s t
        has = wait-ends world wanted s running settled

        work : IsAtWork s c before (command.Await wanted ∷ rest) was.session false None
        work = was.at_work

        client : Client
        client = standing c was.session (command.Await wanted ∷ rest) false None work.seen work.learns work.log work.certificates

        is_there : client_at t c ≡ client
        is_there = left-by world s t has.goes c (number-parts world.clients c number).0 ∙ work.is

        fresh : IsFresh t work.seen
        fresh = fresh-stays 0 s t work.seen has.goes work.fresh

        sound : IsSoundLog world t.logs.jobs
        sound = sound-of t has.goes.running

        -- a job that reads is here
        comes : nat_le wanted job ≡ true → IsObeyed c (before ++ command.Await wanted ∷ []) rest s (made world t (event.Await c job))
        comes is =
            let published = newest-published t has.goes.running in
            let move = do-deed t c (event.Await c job) (is_published t.logs.jobs job) (Awaits job) client has.goes.running number is_there (awaiting job) published (and_from (nat_le wanted job) _ is (fresh-low t work.seen has.goes.running fresh)) in
            let u = made world t (event.Await c job) in
            let end : IsWaitEnd world wanted (awaited_line was.session job) = reached job (leb-true wanted job is) (sound.reads job published) refl in
            record {
              goes = goes-trans world c s t u (goes-widen world c s t has.goes) move.goes;
              settled = settled-stays world t u move.goes.grown move.jobs has.settled;
              served =
                  record {
                    session = was.session;
                    at_work =
                        record {
                          seen = job;
                          learns = work.learns;
                          log = _;
                          certificates = work.certificates;
                          is = move.now;
                          fresh = inr (any-grown _ t.logs.jobs u.logs.jobs move.goes.grown.jobs published);
                          ends = ends-more before work.log.lines (command.Await wanted) (awaited_line was.session job) work.ends end;
                        };
                  };
            }

        -- none is, and none will come
        never_comes : nat_le wanted job ≡ false → AllCame world t (length world.jobs + 1) → IsObeyed c (before ++ command.Await wanted ∷ []) rest s (made world (then_closed world t) (event.NotYet c))
        never_comes is all =
            let v = then_closed world t in
            let closing = then-closed t has.goes.running all in
            let runs = closing.goes.running in
            let low : job < wanted = leb-false wanted job is in
            let same : newest v.logs.jobs ≡ job = ap newest closing.jobs in
            let less : nat_lt (newest v.logs.jobs) wanted ≡ true = lt-ltb (newest v.logs.jobs) wanted (omega (arith, low, same)) in
            let here = left-by world t v closing.goes c (number-parts world.clients c number).0 ∙ is_there in
            let move = do-deed v c (event.NotYet c) v.logs.closed (FindsNone (newest v.logs.jobs)) client runs number here finding_none closing.closed less in
            let u = made world v (event.NotYet c) in
            let highest = (newest_is_highest world v.logs.events v runs.played closing.closed).highest in
            let end : IsWaitEnd world wanted (not_yet_line was.session (newest v.logs.jobs)) = not_reached (λ other above. err-from (job_at world other) (λ reads. let below = highest other (number-reads world.jobs other reads) reads in absurd (omega (arith, above, below, low, same)))) refl in
            record {
              goes = goes-trans world c s t u (goes-widen world c s t has.goes) (goes-trans world c t v u (goes-widen world c t v closing.goes) move.goes);
              settled = settled-stays world v u move.goes.grown move.jobs (settled-stays world t v closing.goes.grown closing.jobs has.settled);
              served =
                  record {
                    session = was.session;
                    at_work =
                        record {
                          seen = work.seen;
                          learns = work.learns;
                          log = _;
                          certificates = work.certificates;
                          is = move.now;
                          fresh = fresh-stays c v u work.seen move.goes (fresh-stays 0 t v work.seen closing.goes fresh);
                          ends = ends-more before work.log.lines (command.Await wanted) (not_yet_line was.session (newest v.logs.jobs)) work.ends end;
                        };
                  };
            }

        by_test : (b : Bool) → nat_le wanted job ≡ b → IsObeyed c (before ++ command.Await wanted ∷ []) rest s (if b then made world t (event.Await c job) else made world (then_closed world t) (event.NotYet c))
        by_test true is = comes is
        by_test false is =
            ⊎_elim (λ passed. absurd (true≢false (sym (lt-ltb job wanted (leb-false wanted job is)) ∙ passed))) (λ all. never_comes is all) has.ends

    obeys : (next : Command) (s : State) → IsRunning world s → IsSettled world s → IsServed s c before (next ∷ rest) → IsObeyed c (before ++ next ∷ []) rest s (obeyed world c s next)
    obeys (command.Await wanted) s running settled was = awaited wanted s running settled was
    obeys (command.Key key) s running settled was = other (command.Key key) s running settled was refl (λ line. tt)
    obeys (command.Select n) s running settled was = other (command.Select n) s running settled was refl (λ line. tt)
    obeys command.Reset s running settled was = other command.Reset s running settled was refl (λ line. tt)
    obeys (command.ExpectPreedit text) s running settled was = other (command.ExpectPreedit text) s running settled was refl (λ line. tt)
    obeys (command.ExpectResult text) s running settled was = other (command.ExpectResult text) s running settled was refl (λ line. tt)

  -- ---- All commands of a client, and its end

  obeys-all : (c : ℕ) (commands before : List Command) (s : State) → IsTrue (is_number world.clients c) → IsRunning world s → IsSettled world s → IsServed s c before commands → IsObeyed c (before ++ commands) [] s (fold (obeyed world c) s commands)
  obeys-all c [] before s number running settled was =
      subst (λ all. IsObeyed c all [] s s) (sym (append-nil before)) (record { goes = goes-refl world c s running; settled = settled; served = was })
  obeys-all c (next ∷ rest) before s number running settled was =
      let t = obeyed world c s next in
      let one = obeys c before rest number next s running settled was in
      let u = fold (obeyed world c) t rest in
      let more = obeys-all c rest (before ++ next ∷ []) t number one.goes.running one.settled one.served in
      subst (λ all. IsObeyed c all [] s u) (append_assoc before (next ∷ []) rest) (record { goes = goes-trans world c s t u one.goes more.goes; settled = more.settled; served = more.served })

  -- a client that ended, with its lines
  pub record IsFinished (client : Client) (commands : List Command) : Type 0 where
    pub ended : has_ended client.progress ≡ true
    pub ends : AreEnds world commands client.log.lines

  pub record HasServed (c : ℕ) (s t : State) : Type 0 where
    pub goes : Goes world c s t
    pub settled : IsSettled world t
    pub finished : IsFinished (client_at t c) (client_plan world c).commands

  -- a client at the start
  pub opens-standing : (c : ℕ) → client_at (start world) c ≡ standing c opening (client_plan world c).commands false None 0 0 (client_log (client_plan world c)) (client_at (start world) c).certificates
  unfolding client_at
  opens-standing c =
      let plan = client_plan world c in
      let progress : progress_of (start world) c ≡ begun_with plan.commands = at-map (λ (plan : ClientPlan). begun_with plan.commands) no_client world.clients c in
      let log : at_number no_client_log (map client_log world.clients) c ≡ client_log plan = at-map client_log no_client world.clients c in
      λ i. record { number = c; progress = progress i; log = log i; certificates = (client_at (start world) c).certificates }

  pub serves : (c : ℕ) (s : State) → IsTrue (is_number world.clients c) → IsRunning world s → IsSettled world s → client_at s c ≡ client_at (start world) c → HasServed c s (served world s c)
  unfolding done may client_at
  serves c s number running settled same =
      let plan = client_plan world c in
      let certificates = (client_at (start world) c).certificates in
      let opens = opens-standing c in
      let was : IsServed s c [] plan.commands = record { session = opening; at_work = record { seen = 0; learns = 0; log = client_log plan; certificates = certificates; is = same ∙ opens; fresh = inl refl; ends = tt } } in
      let t = fold (obeyed world c) s plan.commands in
      let all = obeys-all c plan.commands [] s number running settled was in
      let work = all.served.at_work in
      let client = standing c all.served.session [] false None work.seen work.learns work.log work.certificates in
      let move = do-deed t c (event.End c) true Ends client all.goes.running number work.is ending refl refl in
      let u = made world t (event.End c) in
      record {
        goes = goes-trans world c s t u all.goes move.goes;
        settled = settled-stays world t u move.goes.grown move.jobs all.settled;
        finished = subst (λ x. IsFinished x plan.commands) (sym move.now) (record { ended = refl; ends = work.ends });
      }

  -- ---- All clients

  pub record AreServed (bound : ℕ) (s : State) : Type 0 where
    pub running : IsRunning world s
    pub settled : IsSettled world s
    pub finished : (d : ℕ) → 0 < d → d < bound → IsFinished (client_at s d) (client_plan world d).commands
    pub others : (d : ℕ) → bound ≤ d → client_at s d ≡ client_at (start world) d

  pub serves-from : (n a : ℕ) (s : State) → 0 < a → ((d : ℕ) → a ≤ d → d < a + n → IsTrue (is_number world.clients d)) → AreServed a s → AreServed (a + n) (fold (served world) s (range_with_len a n))
  serves-from zero a s some numbered so_far =
      record {
        running = so_far.running;
        settled = so_far.settled;
        finished = λ d positive low. so_far.finished d positive (omega (arith, low));
        others = λ d high. so_far.others d (omega (arith, high));
      }
  serves-from (suc n) a s some numbered so_far =
      let t = served world s a in
      let one = serves a s (numbered a (omega arith) (omega arith)) so_far.running so_far.settled (so_far.others a (omega arith)) in
      let next : AreServed (a + 1) t = record {
        running = one.goes.running;
        settled = one.settled;
        finished = λ d positive low. ⊎_elim (λ same. subst (λ n. IsFinished (client_at t n) (client_plan world n).commands) same one.finished) (λ apart. subst (λ x. IsFinished x (client_plan world d).commands) (sym (one.goes.others d positive apart)) (so_far.finished d positive (omega (arith, low, apart)))) (cases_eq a d);
        others = λ d high. one.goes.others d (omega (arith, high)) (λ same. absurd (omega (arith, high, same))) ∙ so_far.others d (omega (arith, high));
      } in
      let rest = serves-from n (a + 1) t (omega arith) (λ d low high. numbered d (omega (arith, low)) (omega (arith, high))) next in
      record {
        running = rest.running;
        settled = rest.settled;
        finished = λ d positive low. rest.finished d positive (omega (arith, low));
        others = λ d high. rest.others d (omega (arith, high));
      }
