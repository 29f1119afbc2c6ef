-- What the deeds of a client add to its entries.
use Rattle.std.proofs.Common.{◌≡◌, refl, sym, ap, ◌∙◌, ℕ, ◌+◌, Bool, true, false, cond, List, [], ◌∷◌, ◌++◌, Option, Some, None, length, arith, append-nil, drop}
use Rattle.std.specs.Prelude.{◌&&◌, IsTrue, is_none, not}
use Rattle.std.proofs.lemmas.Bool.{and_parts, false≢true, not-true, true≢false}
use Rattle.std.proofs.lemmas.List.{length_push}
use Rattle.mz_base.specs.declared.event.Event.{Event}
use Rattle.mz_base.specs.declared.lattice.Pair.{Pair}
use Rattle.mz_base.specs.declared.logs.CertEntry.{CertEntry}
use Rattle.mz_base.specs.declared.logs.Own.{Own}
use Rattle.mz_base.specs.declared.logs.UserEntry.{UserEntry}
use Rattle.mz_base.specs.declared.logs.UserEntry.TheVariants as entry
use Rattle.keys.specs.declared.command.Command.{Command}
use Rattle.session_meaning.specs.Laws.{is_learned}
use Rattle.session_meaning.specs.Stages.{Pinned, Session}
use Rattle.session_meaning.specs.Steps.{step}
use Rattle.run_meaning.specs.Deeds.{Deed, Awaits, Ends, FindsNone, Learns, Takes, awaited_by, certified_by, does, entries_of, is_empty, lacks_learn, lacks_take, may, need_of, over, pairs_of, stepped, with_certificate}
use Rattle.run_meaning.specs.Jobs.{newest}
use Rattle.run_meaning.specs.JournalLaws.{end_if, is_learn, learns_in, numbered}
use Rattle.run_meaning.specs.States.{Client, Progress, State, journal_of}
use Rattle.run_meaning.specs.Users.{data_of}
use Rattle.run_meaning.specs.Worlds.{World, user_of}
use Rattle.run_meaning.proofs.EventKinds.{IsDeed, awaiting, ending, finding_none, learning, stepping, taking}
use Rattle.run_meaning.proofs.LogLemmas.{count-push}

-- ---- Learns in order

numbered-push : (c from : ℕ) (learned : List (List Pair)) (pairs : List Pair) → numbered c from (learned ++ pairs ∷ []) ≡ numbered c from learned ++ entry.Learn c (from + length learned) pairs ∷ []
numbered-push c from [] pairs = ap (λ n. entry.Learn c n pairs ∷ []) (let same : from ≡ from + 0 = omega arith in same)
numbered-push c from (first ∷ learned) pairs =
    ap (λ rest. entry.Learn c from first ∷ rest) (numbered-push c (from + 1) learned pairs ∙ ap (λ n. numbered c (from + 1) learned ++ entry.Learn c n pairs ∷ []) (let same : from + 1 + length learned ≡ from + length (first ∷ learned) = omega arith in same))

-- ---- What holds of a client and its entries

-- the entry of the learn of the next command
abbrev pub next_learn : ℕ → Progress → UserEntry
next_learn c p = entry.Learn c p.learns (pairs_of p.session p.rest)

pub record Waits (c : ℕ) (p : Progress) (es : List UserEntry) : Type 0 where
  pub commits : is_learned (need_of p.session p.rest) ≡ true
  pub before : List UserEntry
  pub last : es ≡ before ++ next_learn c p ∷ []

pub record Enters (c : ℕ) (p : Progress) (own : List Own) (es : List UserEntry) : Type 0 where
  pub counted : p.learns ≡ learns_in own
  pub learned : List (List Pair)
  pub as_many : length learned ≡ p.learns
  pub are : es ≡ numbered c 1 learned ++ end_if p.ended c (length learned)
  pub idle : p.ended ≡ true → is_empty p.rest ≡ true
  pub waits : p.learned ≡ true → Waits c p es

-- ---- One own event more

learns-push : (own : List Own) (o : Own) → learns_in (own ++ o ∷ []) ≡ learns_in own + cond (is_learn o.event) 1 0
learns-push own o = count-push (λ (x : Own). is_learn x.event) own o

learns-quiet : (own : List Own) (o : Own) → is_learn o.event ≡ false → learns_in (own ++ o ∷ []) ≡ learns_in own
learns-quiet own o quiet =
    let more : learns_in (own ++ o ∷ []) ≡ learns_in own + 0 = learns-push own o ∙ ap (λ b. learns_in own + cond b 1 0) quiet in
    omega (arith, more)

learns-more : (own : List Own) (o : Own) → is_learn o.event ≡ true → learns_in (own ++ o ∷ []) ≡ learns_in own + 1
learns-more own o is = learns-push own o ∙ ap (λ b. learns_in own + cond b 1 0) is

-- ---- Commands that are left

-- no command is left to a client that has none
idle-drop : (rest : List Command) → is_empty rest ≡ true → is_empty (drop 1 rest) ≡ true
idle-drop [] is = refl
idle-drop (c ∷ rest) is = absurd (false≢true is)

-- and none commits
idle-needs : (session : Session) (rest : List Command) → is_empty rest ≡ true → is_learned (need_of session rest) ≡ true → ⊥
idle-needs session [] is commits = false≢true commits
idle-needs session (c ∷ rest) is commits = false≢true is

-- ---- A command over

module _ (client : Client) (es : List UserEntry) (own : Own) where
  abbrev before_it : Type 0
  before_it = Enters client.number client.progress client.log.own es

  -- where the client goes on with the commands that are left
  enters-over : (p : Progress) → p.rest ≡ drop 1 client.progress.rest → p.learned ≡ false → p.learns ≡ client.progress.learns → p.ended ≡ client.progress.ended → is_learn own.event ≡ false → before_it → Enters client.number p (client.log.own ++ own ∷ []) (es ++ [])
  enters-over p rest learned learns ended quiet before =
      record {
        counted = learns ∙ before.counted ∙ sym (learns-quiet client.log.own own quiet);
        learned = before.learned;
        as_many = before.as_many ∙ sym learns;
        are = append-nil es ∙ before.are ∙ ap (λ b. numbered client.number 1 before.learned ++ end_if b client.number (length before.learned)) (sym ended);
        idle = λ is. ap is_empty rest ∙ idle-drop client.progress.rest (before.idle (sym ended ∙ is));
        waits = λ is. absurd (true≢false (sym is ∙ learned));
      }

  enters-stepped : (commands : List Command) → client.progress.rest ≡ commands → is_empty commands ≡ false → is_learn own.event ≡ false → before_it → Enters client.number (stepped client commands).progress (client.log.own ++ own ∷ []) (es ++ [])
  enters-stepped [] is some quiet before = absurd (true≢false some)
  enters-stepped (c ∷ rest) is some quiet before = by_certificate (certified_by client client.progress.rest)
    where
      made : Client
      made = let after = step client.progress.session c client.progress.taken in over client after.session after.line

      by_certificate : (o : Option CertEntry) → Enters client.number (with_certificate made o).progress (client.log.own ++ own ∷ []) (es ++ [])
      by_certificate None = enters-over made.progress refl refl refl refl quiet before
      by_certificate (Some entry) = enters-over made.progress refl refl refl refl quiet before

  -- a learn
  enters-learn : IsTrue (lacks_learn client.progress) → is_learn own.event ≡ true → before_it → Enters client.number (does client Learns).progress (client.log.own ++ own ∷ []) (es ++ entries_of client Learns)
  enters-learn lacks is before = by_end client.progress.ended refl
    where
      p : Progress
      p = client.progress

      pairs : List Pair
      pairs = pairs_of p.session p.rest

      commits : is_learned (need_of p.session p.rest) ≡ true
      commits = (and_parts (is_learned (need_of p.session p.rest)) (not p.learned) lacks).0

      next : UserEntry
      next = entry.Learn client.number (p.learns + 1) pairs

      more : List (List Pair)
      more = before.learned ++ pairs ∷ []

      seq : 1 + length before.learned ≡ p.learns + 1
      seq = let same = before.as_many in omega (arith, same)

      all : p.ended ≡ false → es ++ next ∷ [] ≡ numbered client.number 1 more ++ end_if p.ended client.number (length more)
      all going =
          let was : es ≡ numbered client.number 1 before.learned = before.are ∙ ap (λ b. numbered client.number 1 before.learned ++ end_if b client.number (length before.learned)) going ∙ append-nil (numbered client.number 1 before.learned) in
          let now : numbered client.number 1 more ≡ numbered client.number 1 before.learned ++ next ∷ [] = numbered-push client.number 1 before.learned pairs ∙ ap (λ n. numbered client.number 1 before.learned ++ entry.Learn client.number n pairs ∷ []) seq in
          ap (λ xs. xs ++ next ∷ []) was ∙ sym now ∙ sym (append-nil (numbered client.number 1 more)) ∙ ap (λ b. numbered client.number 1 more ++ end_if b client.number (length more)) (sym going)

      by_end : (b : Bool) → p.ended ≡ b → Enters client.number (does client Learns).progress (client.log.own ++ own ∷ []) (es ++ next ∷ [])
      by_end true ended = absurd (idle-needs p.session p.rest (before.idle ended) commits)
      by_end false going =
          record {
            counted = ap (λ n. n + 1) before.counted ∙ sym (learns-more client.log.own own is);
            learned = more;
            as_many = length_push before.learned pairs ∙ ap (λ n. n + 1) before.as_many;
            are = all going;
            idle = before.idle;
            waits = λ now. record { commits = commits; before = es; last = refl };
          }

  -- the end
  enters-end : IsTrue (is_empty client.progress.rest) → client.progress.ended ≡ false → is_learn own.event ≡ false → before_it → Enters client.number (does client Ends).progress (client.log.own ++ own ∷ []) (es ++ entries_of client Ends)
  enters-end none going quiet before =
      let p = client.progress in
      let learned = numbered client.number 1 before.learned in
      let was : es ≡ learned = before.are ∙ ap (λ b. learned ++ end_if b client.number (length before.learned)) going ∙ append-nil learned in
      record {
        counted = before.counted ∙ sym (learns-quiet client.log.own own quiet);
        learned = before.learned;
        as_many = before.as_many;
        are = ap (λ xs. xs ++ entry.End client.number p.learns ∷ []) was ∙ ap (λ n. learned ++ entry.End client.number n ∷ []) (sym before.as_many);
        idle = λ is. none;
        waits = λ is. absurd (idle-needs p.session p.rest none (before.waits is).commits);
      }

  -- a take
  enters-take : (pinned : Pinned) (entries : ℕ) → is_learn own.event ≡ false → before_it → Enters client.number (does client (Takes pinned entries)).progress (client.log.own ++ own ∷ []) (es ++ [])
  enters-take pinned entries quiet before =
      record {
        counted = before.counted ∙ sym (learns-quiet client.log.own own quiet);
        learned = before.learned;
        as_many = before.as_many;
        are = append-nil es ∙ before.are;
        idle = before.idle;
        waits = λ is. let it = before.waits is in record { commits = it.commits; before = it.before; last = append-nil es ∙ it.last };
      }

-- each deed that may come
pub enters-does : (world : World) (s : State) (client : Client) (es : List UserEntry) (own : Own) (c : ℕ) (given : Bool) (deed : Deed) → IsDeed world s c own.event given deed → IsTrue (may client deed) → Enters client.number client.progress client.log.own es → Enters client.number (does client deed).progress (client.log.own ++ own ∷ []) (es ++ entries_of client deed)
unfolding may
enters-does world s client es own c given deed is comes before = by_deed own.event given deed is refl comes
  where
    by_deed : (e : Event) (given : Bool) (deed : Deed) → IsDeed world s c e given deed → own.event ≡ e → IsTrue (may client deed) → Enters client.number (does client deed).progress (client.log.own ++ own ∷ []) (es ++ entries_of client deed)
    by_deed e given deed learning same comes = enters-learn client es own comes (ap is_learn same) before
    by_deed e given deed (taking job) same comes = enters-take client es own (data_of world (user_of world c) job (journal_of s (user_of world c))) (length (journal_of s (user_of world c))) (ap is_learn same) before
    by_deed e given deed stepping same comes =
        let some = not-true (is_empty client.progress.rest) (and_parts (not (is_empty client.progress.rest)) (is_none (awaited_by client.progress.rest) && (not (lacks_learn client.progress) && not (lacks_take client.progress))) comes).0 in
        enters-stepped client es own client.progress.rest refl some (ap is_learn same) before
    by_deed e given deed (awaiting job) same comes = enters-over client es own (does client (Awaits job)).progress refl refl refl refl (ap is_learn same) before
    by_deed e given deed finding_none same comes = enters-over client es own (does client (FindsNone (newest s.logs.jobs))).progress refl refl refl refl (ap is_learn same) before
    by_deed e given deed ending same comes =
        let parts = and_parts (is_empty client.progress.rest) (not client.progress.ended) comes in
        enters-end client es own parts.0 (not-true client.progress.ended parts.1) (ap is_learn same) before
