-- What its own events make of a client is what its commands lead to, with the answers that these events name.
use Rattle.std.proofs.Common.{◌≡◌, zero, ◌<◌, get_or, refl, sym, ap, subst, ◌∙◌, ℕ, suc, ◌+◌, ◌≤◌, Bool, true, false, List, [], ◌∷◌, ◌++◌, Option, Some, None, ⊎_elim, drop, length, length-append, arith, append_assoc, append-nil, take, take_all, option_map, option_to_list}
use Rattle.std.specs.Prelude.{◌&&◌, IfSome, IsTrue, IsSomeAnd, if◌then◌else◌, is_none, is_some, not, option_and_then}
use Rattle.std.specs.List.{cons_option, list_all}
use Rattle.std.specs.Option.{option_map_or}
use Rattle.std.proofs.lemmas.Bool.{and_parts, cases_Bool, false≢true, not-true, true≢false}
use Rattle.std.proofs.lemmas.List.{take-append-le}
use Rattle.std.proofs.lemmas.List.Elements.{filter_map-append}
use Rattle.std.proofs.lemmas.Option.{none-some, option_and_then_some, same_Some}
use Rattle.mz_base.specs.declared.event.Event.{Event}
use Rattle.mz_base.specs.declared.logs.CertEntry.{CertEntry}
use Rattle.mz_base.specs.declared.logs.Own.{Own}
use Rattle.mz_base.specs.declared.report.Line.{Line}
use Rattle.keys.specs.declared.command.Command.{Command}
use Rattle.keys.specs.declared.command.Command.TheVariants as command
use Rattle.session_meaning.specs.Laws.{is_taken}
use Rattle.session_meaning.specs.Stages.{Pinned, opening}
use Rattle.session_meaning.specs.Steps.{needs, step}
use Rattle.run_meaning.specs.AnswerLaws.{AloneIsSolo, AnswersSuffice, CompleteAnswersSuffice, HasSolo, PlayedIsSolo, answers_in, carried_out}
use Rattle.run_meaning.specs.Deeds.{is_empty, Deed, Awaits, Ends, FindsNone, Learns, Steps, Takes, awaited_by, awaited_line, certificate_after, certified_by, done, lacks_learn, lacks_take, may, need_of, not_yet_line, noted, over}
use Rattle.run_meaning.specs.Jobs.{is_logged}
use Rattle.run_meaning.specs.Numbers.{is_number, numbers}
use Rattle.run_meaning.specs.Plays.{are_entered, has_ended, is_complete, play}
use Rattle.run_meaning.specs.SoloLaws.{around_in}
use Rattle.run_meaning.specs.Solos.{Answer, Around, Awaited, Data, NotYet, Solo, alone, alone_after, answer_in, answer_of, answers_of, solo, solo_command, solo_from, steps_by, steps_with, wait_ends, with_line}
use Rattle.run_meaning.specs.States.{Client, State, certificates_of, client_at, client_log_of, no_progress, progress_of, start}
use Rattle.run_meaning.specs.Worlds.{World, client_plan}
use Rattle.run_meaning.proofs.ClientLemmas.{with_made}
use Rattle.run_meaning.proofs.LegalLemmas.{goes-on-by}
use Rattle.run_meaning.proofs.RunningLemmas.{clients-play, number-parts}
use Rattle.run_meaning.proofs.ServingLemmas.{opens-standing, with-same}
use Rattle.run_meaning.proofs.SoloLemmas.{clients_are_alone}

-- ---- Further answers, and a further command

abbrev with_more : Solo → List Answer → Solo
with_more so more = record so { answers = so.answers ++ more }

waits-more : (so next : Solo) (answers more : List Answer) → wait_ends so answers ≡ Some next → wait_ends (with_more so more) (answers ++ more) ≡ Some (with_more next more)
waits-more so next [] more is = absurd (none-some next is)
waits-more so next (Data pinned ∷ answers) more is = absurd (none-some next is)
waits-more so next (Awaited job ∷ answers) more is =
    ap (λ n. Some (with_more n more)) (same_Some (with_line so so.session (awaited_line so.session job) [] answers) next is)
waits-more so next (NotYet newest ∷ answers) more is =
    ap (λ n. Some (with_more n more)) (same_Some (with_line so so.session (not_yet_line so.session newest) [] answers) next is)

steps-more : (c : ℕ) (so next : Solo) (command : Command) (b : Bool) (answers more : List Answer) → steps_by c so command b answers ≡ Some next → steps_by c (with_more so more) command b (answers ++ more) ≡ Some (with_more next more)
steps-more c so next command false answers more is =
    ap (λ n. Some (with_more n more)) (same_Some (steps_with c so command None answers) next is)
steps-more c so next command true [] more is = absurd (none-some next is)
steps-more c so next command true (Awaited job ∷ answers) more is = absurd (none-some next is)
steps-more c so next command true (NotYet newest ∷ answers) more is = absurd (none-some next is)
steps-more c so next command true (Data pinned ∷ answers) more is =
    ap (λ n. Some (with_more n more)) (same_Some (steps_with c so command (Some pinned) answers) next is)

command-more : (c : ℕ) (so next : Solo) (command : Command) (more : List Answer) → solo_command c so command ≡ Some next → solo_command c (with_more so more) command ≡ Some (with_more next more)
unfolding solo_command
command-more c so next (command.Await wanted) more is = waits-more so next so.answers more is
command-more c so next (command.Key key) more is = steps-more c so next (command.Key key) (is_taken (needs so.session (command.Key key))) so.answers more is
command-more c so next (command.Select n) more is = steps-more c so next (command.Select n) (is_taken (needs so.session (command.Select n))) so.answers more is
command-more c so next command.Reset more is = steps-more c so next command.Reset (is_taken (needs so.session command.Reset)) so.answers more is
command-more c so next (command.ExpectPreedit text) more is = steps-more c so next (command.ExpectPreedit text) (is_taken (needs so.session (command.ExpectPreedit text))) so.answers more is
command-more c so next (command.ExpectResult text) more is = steps-more c so next (command.ExpectResult text) (is_taken (needs so.session (command.ExpectResult text))) so.answers more is

from-more : (c : ℕ) (so next : Solo) (commands : List Command) (more : List Answer) → solo_from c so commands ≡ Some next → solo_from c (with_more so more) commands ≡ Some (with_more next more)
from-more c so next [] more is = ap (λ n. Some (with_more n more)) (same_Some so next is)
from-more c so next (first ∷ rest) more is =
    option_and_then_some (λ n. solo_from c n rest) (solo_command c so first) next is (λ mid here later. ap (option_and_then (λ n. solo_from c n rest)) (command-more c so mid first more here) ∙ from-more c mid next rest more later)

module _ (c : ℕ) (last : Command) where
  just : (o : Option Solo) → option_and_then (λ next. Some next) o ≡ o
  just None = refl
  just (Some so) = refl

  from-snoc : (so : Solo) (commands : List Command) → solo_from c so (commands ++ last ∷ []) ≡ option_and_then (λ next. solo_command c next last) (solo_from c so commands)
  from-snoc so [] = just (solo_command c so last)
  from-snoc so (first ∷ rest) = by_first (λ next. from-snoc next rest) (solo_command c so first)
    where
      by_first : ((next : Solo) → solo_from c next (rest ++ last ∷ []) ≡ option_and_then (λ n. solo_command c n last) (solo_from c next rest)) → (o : Option Solo) → option_and_then (λ n. solo_from c n (rest ++ last ∷ [])) o ≡ option_and_then (λ n. solo_command c n last) (option_and_then (λ n. solo_from c n rest) o)
      by_first goes_on None = refl
      by_first goes_on (Some next) = goes_on next

-- ---- A client as far as it is

-- the answer that waits for the next command
abbrev pending : Option Pinned → List Answer
pending None = []
pending (Some pinned) = Data pinned ∷ []

abbrev solo_of : Client → List CertEntry → List Answer → Solo
solo_of client certificates answers =
    record { session = client.progress.session; lines = client.log.lines; certificates = certificates; answers = answers }

record IsSoFar (commands : List Command) (c : ℕ) (client : Client) (answers : List Answer) : Type 0 where
  pub before : List Command
  pub certificates : List CertEntry
  pub number : client.number ≡ c
  pub split : commands ≡ before ++ client.progress.rest
  pub count : length before ≡ length client.log.lines
  pub kept : IfSome client.certificates (λ kept. kept ≡ certificates)
  pub is : solo c before answers ≡ Some (solo_of client certificates (pending client.progress.taken))
  pub needed : is_some client.progress.taken ≡ true → is_taken (need_of client.progress.session client.progress.rest) ≡ true

more-answers : (c : ℕ) (before : List Command) (answers more : List Answer) (so : Solo) → solo c before answers ≡ Some so → solo c before (answers ++ more) ≡ Some (with_more so more)
more-answers c before answers more so is =
    from-more c (record { session = opening; lines = []; certificates = []; answers = answers }) so before more is

none-taken : (taken : Option Pinned) → is_some taken ≡ false → taken ≡ None
none-taken None is = refl
none-taken (Some pinned) is = absurd (true≢false is)

-- the next command is a wait
await-next : (rest : List Command) (test : ℕ → Bool) → option_map_or test (awaited_by rest) false ≡ true → (wanted : ℕ) × (tail : List Command) × (rest ≡ command.Await wanted ∷ tail)
await-next [] test is = absurd (false≢true is)
await-next (command.Await wanted ∷ tail) test is = (wanted, tail, refl)
await-next (command.Key key ∷ tail) test is = absurd (false≢true is)
await-next (command.Select n ∷ tail) test is = absurd (false≢true is)
await-next (command.Reset ∷ tail) test is = absurd (false≢true is)
await-next (command.ExpectPreedit text ∷ tail) test is = absurd (false≢true is)
await-next (command.ExpectResult text ∷ tail) test is = absurd (false≢true is)

-- or it is none, and its step needs an answer where it takes data
solo-step : (c : ℕ) (so : Solo) (next : Command) (tail : List Command) → is_none (awaited_by (next ∷ tail)) ≡ true → solo_command c so next ≡ steps_by c so next (is_taken (needs so.session next)) so.answers
unfolding solo_command
solo-step c so (command.Await wanted) tail is = absurd (false≢true is)
solo-step c so (command.Key key) tail is = refl
solo-step c so (command.Select n) tail is = refl
solo-step c so command.Reset tail is = refl
solo-step c so (command.ExpectPreedit text) tail is = refl
solo-step c so (command.ExpectResult text) tail is = refl

step-answer : (c : ℕ) (so : Solo) (next : Command) (b : Bool) (taken : Option Pinned) → (b && is_none taken) ≡ false → (is_some taken ≡ true → b ≡ true) → steps_by c so next b (pending taken) ≡ Some (steps_with c so next taken [])
step-answer c so next true (Some pinned) came needed = refl
step-answer c so next true None came needed = absurd (true≢false came)
step-answer c so next false None came needed = refl
step-answer c so next false (Some pinned) came needed = absurd (false≢true (needed refl))

kept-more : (kept : Option (List CertEntry)) (certificates : List CertEntry) (made : Option CertEntry) → IfSome kept (λ k. k ≡ certificates) → IfSome (with_made kept made) (λ k. k ≡ certificates ++ option_to_list made)
kept-more None certificates None is = tt
kept-more None certificates (Some made) is = tt
kept-more (Some k) certificates None is = is ∙ sym (append-nil certificates)
kept-more (Some k) certificates (Some made) is = ap (λ (xs : List CertEntry). xs ++ made ∷ []) is

module _ (commands : List Command) (c : ℕ) where
  no-answer : (client : Client) (answers : List Answer) → IsSoFar commands c client answers → IsSoFar commands c client (answers ++ [])
  no-answer client answers so_far = subst (IsSoFar commands c client) (sym (append-nil answers)) so_far

  -- a client whose wait is over, with this line
  abbrev past_wait : Client → Line → ℕ → List Own → Client
  past_wait client line seen own =
      record {
        number = client.number;
        progress = record client.progress { rest = drop 1 client.progress.rest; learned = false; taken = None; seen = seen };
        log = record client.log { lines = client.log.lines ++ line ∷ []; own = own };
        certificates = client.certificates;
      }

  wait-over : (client : Client) (answers : List Answer) (wanted : ℕ) (tail : List Command) (line : Line) (answer : Answer) (seen : ℕ) (own : List Own) → client.progress.rest ≡ command.Await wanted ∷ tail → ((certificates : List CertEntry) → wait_ends (solo_of client certificates (answer ∷ [])) (answer ∷ []) ≡ Some (record { session = client.progress.session; lines = client.log.lines ++ line ∷ []; certificates = certificates ++ []; answers = [] })) → IsSoFar commands c client answers → IsSoFar commands c (past_wait client line seen own) (answers ++ answer ∷ [])
  unfolding solo_command needs
  wait-over client answers wanted tail line answer seen own next_is ends so_far =
      let before = so_far.before in
      let certificates = so_far.certificates in
      let last = command.Await wanted in
      let none : client.progress.taken ≡ None = none-taken client.progress.taken (⊎_elim (λ some. absurd (false≢true (sym (ap (λ rest. is_taken (need_of client.progress.session rest)) next_is) ∙ so_far.needed some))) (λ not_some. not_some) (cases_Bool (is_some client.progress.taken))) in
      let so = solo_of client certificates (pending client.progress.taken) in
      let whole : solo c (before ++ last ∷ []) (answers ++ answer ∷ []) ≡ Some (record { session = client.progress.session; lines = client.log.lines ++ line ∷ []; certificates = certificates; answers = [] }) = from-snoc c last (record { session = opening; lines = []; certificates = []; answers = answers ++ answer ∷ [] }) before ∙ ap (option_and_then (λ next. solo_command c next last)) (more-answers c before answers (answer ∷ []) so so_far.is) ∙ ap (λ t. wait_ends (solo_of client certificates (pending t ++ answer ∷ [])) (pending t ++ answer ∷ [])) none ∙ ends certificates ∙ ap (λ cs. Some (record { session = client.progress.session; lines = client.log.lines ++ line ∷ []; certificates = cs; answers = [] })) (append-nil certificates) in
      let one_more : length (before ++ last ∷ []) ≡ length before + 1 = length-append before (last ∷ []) in
      let one_line : length (client.log.lines ++ line ∷ []) ≡ length client.log.lines + 1 = length-append client.log.lines (line ∷ []) in
      let count_before = so_far.count in
      record {
        before = before ++ last ∷ [];
        certificates = certificates;
        number = so_far.number;
        split = so_far.split ∙ ap (λ rest. before ++ rest) next_is ∙ sym (append_assoc before (last ∷ []) tail) ∙ ap (λ rest. (before ++ last ∷ []) ++ drop 1 rest) (sym next_is);
        count = omega (arith, one_more, one_line, count_before);
        kept = so_far.kept;
        is = whole;
        needed = λ some. absurd (false≢true some);
      }

  -- ---- Each deed

  learns : (client : Client) (answers : List Answer) (e : Event) → IsSoFar commands c client answers → IsSoFar commands c (done client e Learns) answers
  unfolding done
  learns client answers e so_far =
      record {
        before = so_far.before;
        certificates = so_far.certificates;
        number = so_far.number;
        split = so_far.split;
        count = so_far.count;
        kept = so_far.kept;
        is = so_far.is;
        needed = so_far.needed;
      }

  ends : (client : Client) (answers : List Answer) (e : Event) → IsSoFar commands c client answers → IsSoFar commands c (done client e Ends) answers
  unfolding done
  ends client answers e so_far =
      record {
        before = so_far.before;
        certificates = so_far.certificates;
        number = so_far.number;
        split = so_far.split;
        count = so_far.count;
        kept = so_far.kept;
        is = so_far.is;
        needed = so_far.needed;
      }

  takes : (client : Client) (answers : List Answer) (e : Event) (pinned : Pinned) (entries : ℕ) → may client (Takes pinned entries) ≡ true → IsSoFar commands c client answers → IsSoFar commands c (done client e (Takes pinned entries)) (answers ++ Data pinned ∷ [])
  unfolding done may
  takes client answers e pinned entries can so_far =
      let lacks = and_parts (is_taken (need_of client.progress.session client.progress.rest)) (is_none client.progress.taken) (and_parts (lacks_take client.progress) _ can).0 in
      let none : client.progress.taken ≡ None = none-taken client.progress.taken (not-true (is_some client.progress.taken) lacks.1) in
      let so = solo_of client so_far.certificates (pending client.progress.taken) in
      record {
        before = so_far.before;
        certificates = so_far.certificates;
        number = so_far.number;
        split = so_far.split;
        count = so_far.count;
        kept = so_far.kept;
        is = more-answers c so_far.before answers (Data pinned ∷ []) so so_far.is ∙ ap (λ t. Some (solo_of client so_far.certificates (pending t ++ Data pinned ∷ []))) none;
        needed = λ some. lacks.0;
      }

  awaits : (client : Client) (answers : List Answer) (e : Event) (job : ℕ) → may client (Awaits job) ≡ true → IsSoFar commands c client answers → IsSoFar commands c (done client e (Awaits job)) (answers ++ Awaited job ∷ [])
  unfolding done may
  awaits client answers e job can so_far =
      let next = await-next client.progress.rest _ can in
      wait-over client answers next.0 next.1 (awaited_line client.progress.session job) (Awaited job) job (client.log.own ++ record { event = e; prefix = 0 } ∷ []) next.2 (λ certificates. refl) so_far

  finds-none : (client : Client) (answers : List Answer) (e : Event) (newest : ℕ) → may client (FindsNone newest) ≡ true → IsSoFar commands c client answers → IsSoFar commands c (done client e (FindsNone newest)) (answers ++ NotYet newest ∷ [])
  unfolding done may
  finds-none client answers e newest can so_far =
      let next = await-next client.progress.rest _ can in
      wait-over client answers next.0 next.1 (not_yet_line client.progress.session newest) (NotYet newest) client.progress.seen (client.log.own ++ record { event = e; prefix = 0 } ∷ []) next.2 (λ certificates. refl) so_far

  abbrev with_rest : Client → List Command → Client
  with_rest client rest = record client { progress = record client.progress { rest = rest } }

  steps : (client : Client) (answers : List Answer) (e : Event) (rest : List Command) → may (with_rest client rest) Steps ≡ true → IsSoFar commands c (with_rest client rest) answers → IsSoFar commands c (done (with_rest client rest) e Steps) answers
  unfolding done may
  steps client answers e [] can so_far = absurd (false≢true can)
  steps client answers e (next ∷ tail) can so_far =
      let session = client.progress.session in
      let taken = client.progress.taken in
      let here = with_rest client (next ∷ tail) in
      let before = so_far.before in
      let certificates = so_far.certificates in
      let parts = and_parts (is_none (awaited_by (next ∷ tail))) (not (lacks_learn here.progress) && not (lacks_take here.progress)) can in
      let came = not-true (lacks_take here.progress) (and_parts (not (lacks_learn here.progress)) (not (lacks_take here.progress)) parts.1).1 in
      let so = solo_of here certificates (pending taken) in
      let after = step session next taken in
      let made : Option CertEntry = certificate_after c (length client.log.lines + 1) after.session in
      let certified : Option CertEntry = certified_by here (next ∷ tail) in
      let same : certified ≡ made = ap (λ n. certificate_after n (length client.log.lines + 1) after.session) so_far.number in
      let last = over here after.session after.line in
      let whole : solo c (before ++ next ∷ []) answers ≡ Some (steps_with c so next taken []) = from-snoc c next (record { session = opening; lines = []; certificates = []; answers = answers }) before ∙ ap (option_and_then (λ n. solo_command c n next)) so_far.is ∙ solo-step c so next tail parts.0 ∙ step-answer c so next (is_taken (needs session next)) taken came so_far.needed in
      let one_more : length (before ++ next ∷ []) ≡ length before + 1 = length-append before (next ∷ []) in
      let one_line : length (client.log.lines ++ after.line ∷ []) ≡ length client.log.lines + 1 = length-append client.log.lines (after.line ∷ []) in
      let count_before = so_far.count in
      subst (λ x. IsSoFar commands c (noted x e 0) answers) (sym (with-same last certified)) (record {
        before = before ++ next ∷ [];
        certificates = certificates ++ option_to_list made;
        number = so_far.number;
        split = so_far.split ∙ sym (append_assoc before (next ∷ []) tail);
        count = omega (arith, one_more, one_line, count_before);
        kept = subst (λ o. IfSome (with_made client.certificates o) (λ k. k ≡ certificates ++ option_to_list made)) (sym same) (kept-more client.certificates certificates made so_far.kept);
        is = whole;
        needed = λ some. absurd (false≢true some);
      })

  by-deed : (client : Client) (answers : List Answer) (e : Event) (deed : Deed) → may client deed ≡ true → IsSoFar commands c client answers → IsSoFar commands c (done client e deed) (answers ++ option_to_list (answer_in deed))
  by-deed client answers e Learns can so_far = no-answer (done client e Learns) answers (learns client answers e so_far)
  by-deed client answers e (Takes pinned entries) can so_far = takes client answers e pinned entries can so_far
  by-deed client answers e (Awaits job) can so_far = awaits client answers e job can so_far
  by-deed client answers e (FindsNone newest) can so_far = finds-none client answers e newest can so_far
  by-deed client answers e Steps can so_far = no-answer (done client e Steps) answers (steps client answers e client.progress.rest can so_far)
  by-deed client answers e Ends can so_far = no-answer (done client e Ends) answers (ends client answers e so_far)

-- ---- All own events

one-answer : {A : Type 0} (o : Option A) → cons_option o [] ≡ option_to_list o
one-answer None = refl
one-answer (Some x) = refl

module _ (world : World) (around : Around) (c : ℕ) where
  all-own : (own past : List Own) (client last : Client) → IsSoFar (client_plan world c).commands c client (answers_of world around past) → alone world around client own ≡ Some last → IsSoFar (client_plan world c).commands c last (answers_of world around (past ++ own))
  all-own [] past client last so_far made =
      subst (λ xs. IsSoFar (client_plan world c).commands c last (answers_of world around xs)) (sym (append-nil past)) (subst (λ x. IsSoFar (client_plan world c).commands c x (answers_of world around past)) (same_Some client last made) so_far)
  all-own (first ∷ own) past client last so_far made =
      option_and_then_some (λ next. alone world around next own) (alone_after world around client first) last made (λ next here later. let goes = goes-on-by world around client first next here in let answer : answer_of world around first ≡ answer_in goes.deed = ap (option_and_then answer_in) goes.is in let more : answers_of world around (past ++ first ∷ []) ≡ answers_of world around past ++ option_to_list (answer_in goes.deed) = filter_map-append (answer_of world around) past (first ∷ []) ∙ ap (λ xs. answers_of world around past ++ xs) (one-answer (answer_of world around first) ∙ ap option_to_list answer) in let now : IsSoFar (client_plan world c).commands c next (answers_of world around (past ++ first ∷ [])) = subst (λ x. IsSoFar (client_plan world c).commands c x (answers_of world around (past ++ first ∷ []))) goes.made (subst (IsSoFar (client_plan world c).commands c (done client first.event goes.deed)) (sym more) (by-deed (client_plan world c).commands c client (answers_of world around past) first.event goes.deed goes.can so_far)) in subst (λ xs. IsSoFar (client_plan world c).commands c last (answers_of world around xs)) (append_assoc past (first ∷ []) own) (all-own own (past ++ first ∷ []) next last now later))

  no-certificates : (kept : Bool) → IfSome (option_map (certificates_of c) (if kept then Some [] else None)) (λ k. k ≡ [])
  no-certificates true = refl
  no-certificates false = tt

  opens : IsSoFar (client_plan world c).commands c (client_at (start world) c) []
  unfolding client_at
  opens =
      subst (λ x. IsSoFar (client_plan world c).commands c x []) (sym (opens-standing world c)) (record {
        before = [];
        certificates = [];
        number = refl;
        split = refl;
        count = refl;
        kept = no-certificates world.certificates;
        is = refl;
        needed = λ some. absurd (false≢true some);
      })

  carried : (client : Client) (answers : List Answer) → IsSoFar (client_plan world c).commands c client answers → IsSomeAnd (solo c (carried_out world client) answers) (HasSolo client)
  carried client answers so_far =
      let before = so_far.before in
      let same : length client.log.lines ≤ length before = let count_before = so_far.count in omega (arith, count_before) in
      let all : length before ≤ length client.log.lines = let count_before = so_far.count in omega (arith, count_before) in
      let cut : carried_out world client ≡ before = ap (λ n. take (length client.log.lines) (client_plan world n).commands) so_far.number ∙ ap (take (length client.log.lines)) so_far.split ∙ take-append-le (length client.log.lines) before client.progress.rest same ∙ take_all (length client.log.lines) before all in
      subst (λ o. IsSomeAnd o (HasSolo client)) (sym (ap (λ xs. solo c xs answers) cut ∙ so_far.is)) (record { lines = refl; certificates = so_far.kept })

pub alone_is_solo : AloneIsSolo
alone_is_solo world around c own client made =
    carried world around c client (answers_of world around own) (all-own world around c own [] (client_at (start world) c) client (opens world around c) made)

pub played_is_solo : PlayedIsSolo
unfolding client_at
played_is_solo world events s c played =
    alone_is_solo world (around_in world s c) c (client_at s c).log.own (client_at s c) (clients_are_alone world events s c played)

-- ---- The same answers

alike : (client twin : Client) (o : Option Solo) → IsSomeAnd o (HasSolo client) → IsSomeAnd o (HasSolo twin) → (client.log.lines ≡ twin.log.lines) × IfSome client.certificates (λ kept. IfSome twin.certificates (λ others. kept ≡ others))
alike client twin None one two = absurd one
alike client twin (Some so) one two =
    (one.lines ∙ sym two.lines, both client.certificates twin.certificates one.certificates two.certificates)
  where
    both : (kept others : Option (List CertEntry)) → IfSome kept (λ k. k ≡ so.certificates) → IfSome others (λ k. k ≡ so.certificates) → IfSome kept (λ k. IfSome others (λ o. k ≡ o))
    both None others here there = tt
    both (Some k) None here there = tt
    both (Some k) (Some o) here there = here ∙ sym there

pub answers_suffice : AnswersSuffice
unfolding client_at
answers_suffice world other events others s t c played replayed same =
    let first = played_is_solo world events s c played in
    let second = played_is_solo other others t c replayed in
    let cut : carried_out world (client_at s c) ≡ carried_out other (client_at t c) = ap (take (length (client_log_of s c).lines)) same.commands ∙ ap (λ n. take n (client_plan other c).commands) same.carried in
    let one : IsSomeAnd (solo c (carried_out other (client_at t c)) (answers_in other t c)) (HasSolo (client_at s c)) = subst (λ o. IsSomeAnd o (HasSolo (client_at s c))) (ap (λ xs. solo c xs (answers_in world s c)) cut ∙ ap (solo c (carried_out other (client_at t c))) same.answers) first in
    let both = alike (client_at s c) (client_at t c) (solo c (carried_out other (client_at t c)) (answers_in other t c)) one second in
    record { lines = both.0; certificates = both.1 }

-- ---- Complete plays

each-place : {A : Type 0} (p : A → Bool) (none : A) (xs : List A) (place : ℕ) → list_all p xs ≡ true → place < length xs → p (get_or xs place none) ≡ true
each-place p none [] place all less = absurd (omega (arith, less))
each-place p none (x ∷ xs) zero all less = (and_parts (p x) (list_all p xs) all).0
each-place p none (x ∷ xs) (suc place) all less = each-place p none xs place (and_parts (p x) (list_all p xs) all).1 (omega (arith, less))

nothing-left : (rest : List Command) → is_empty rest ≡ true → length rest ≡ 0
nothing-left [] is = refl
nothing-left (next ∷ rest) is = absurd (false≢true is)

each-ended : (world : World) (events : List Event) (s : State) (c : ℕ) → play world events ≡ Some s → IsTrue (is_complete world s) → IsTrue (is_number world.clients c) → has_ended (progress_of s c) ≡ true
each-ended world events s zero played complete there = absurd (omega (arith, (number-parts world.clients 0 there).0))
each-ended world events s (suc place) played complete there =
    let jobs = and_parts (list_all (is_logged s.logs.jobs) (numbers (length world.jobs))) _ complete in
    let reloads = and_parts (list_all (are_entered world s) (numbers (length world.users))) _ jobs.1 in
    let ended = and_parts s.logs.closed (list_all has_ended s.clients) reloads.1 in
    let high = (number-parts world.clients (suc place) there).1 in
    let count_same = clients-play world events s played in
    each-place has_ended no_progress s.clients place ended.1 (omega (arith, high, count_same))

-- a line for each command
lines-of-all : (world : World) (events : List Event) (s : State) (c : ℕ) → play world events ≡ Some s → IsTrue (is_complete world s) → IsTrue (is_number world.clients c) → length (client_log_of s c).lines ≡ length (client_plan world c).commands
unfolding client_at
lines-of-all world events s c played complete there =
    let around = around_in world s c in
    let so_far = all-own world around c (client_log_of s c).own [] (client_at (start world) c) (client_at s c) (opens world around c) (clients_are_alone world events s c played) in
    let ended = and_parts (is_empty (progress_of s c).rest) (progress_of s c).ended (each-ended world events s c played complete there) in
    let none = nothing-left (progress_of s c).rest ended.0 in
    let split = ap (λ (xs : List Command). length xs) so_far.split ∙ length-append so_far.before (progress_of s c).rest in
    let count_before = so_far.count in
    omega (arith, none, split, count_before)

pub complete_answers_suffice : CompleteAnswersSuffice
complete_answers_suffice world other events others s t c played replayed complete complete_too told =
    let same : length (client_log_of s c).lines ≡ length (client_log_of t c).lines = lines-of-all world events s c played complete told.here ∙ ap (λ (xs : List Command). length xs) told.commands ∙ sym (lines-of-all other others t c replayed complete_too told.there) in
    answers_suffice world other events others s t c played replayed (record { commands = told.commands; answers = told.answers; carried = same })
