-- How many lines and learns a client has: a line for each command that is over, and no more learns than commands.
use Rattle.std.proofs.Common.{◌≡◌, refl, sym, ap, subst, ⊎_elim, ℕ, suc, ◌+◌, ◌≤◌, Bool, true, false, List, [], ◌∷◌, ◌++◌, Option, Some, None, arith, cond, drop, length, length-append}
use Rattle.std.specs.Prelude.{IsTrue, not}
use Rattle.std.specs.Option.{option_map_or}
use Rattle.std.proofs.lemmas.Bool.{and_parts, true≢false}
use Rattle.mz_base.specs.declared.event.Event.{Event}
use Rattle.mz_base.specs.declared.logs.CertEntry.{CertEntry}
use Rattle.mz_base.specs.declared.report.Line.{Line}
use Rattle.keys.specs.declared.command.Command.{Command}
use Rattle.session_meaning.specs.Laws.{is_learned}
use Rattle.session_meaning.specs.Stages.{Session}
use Rattle.session_meaning.specs.Steps.{step}
use Rattle.run_meaning.specs.Deeds.{Deed, Awaits, Ends, FindsNone, Learns, Steps, Takes, awaited_by, awaited_line, certified_by, does, done, is_empty, may, need_of, not_yet_line, over, stepped, with_certificate}
use Rattle.run_meaning.specs.Plays.{apply, play}
use Rattle.run_meaning.specs.States.{Client, State, client_at, start}
use Rattle.run_meaning.specs.Worlds.{World, client_plan}
use Rattle.run_meaning.proofs.ClientLemmas.{AreAsMany, as-many-apply, as-many-start}
use Rattle.run_meaning.proofs.EventKinds.{kept_by_play}
use Rattle.run_meaning.proofs.ServingLemmas.{opens-standing}
use Rattle.run_meaning.proofs.SoloLemmas.{HasDone, after-apply}

abbrev pub one-if : Bool → ℕ
one-if b = cond b 1 0

pub record IsCounted (commands : ℕ) (client : Client) : Type 0 where
  pub lines : length client.log.lines + length client.progress.rest ≡ commands
  pub learns : client.progress.learns + length client.progress.rest ≤ commands + one-if client.progress.learned

pub few : (b : Bool) → one-if b ≤ 1
few true = omega arith
few false = omega arith

module _ (n : ℕ) where
  -- ---- A learn

  counted-learn : (client : Client) (learned : Bool) → client.progress.learned ≡ learned → not learned ≡ true → IsCounted n client → IsCounted n (does client Learns)
  counted-learn client true is none counted = absurd (true≢false (sym none))
  counted-learn client false is none counted =
      let before = counted.learns in
      let not_yet : one-if client.progress.learned ≡ 0 = ap one-if is in
      record { lines = counted.lines; learns = omega (arith, before, not_yet) }

  -- ---- A command is over

  counted-over : (client : Client) (session : Session) (line : Line) (rest : List Command) → client.progress.rest ≡ rest → is_empty rest ≡ false → IsCounted n client → IsCounted n (over client session line)
  counted-over client session line [] is some counted = absurd (true≢false some)
  counted-over client session line (c ∷ more) is some counted =
      let all : length client.progress.rest ≡ suc (length more) = ap length is in
      let left : length (drop 1 client.progress.rest) ≡ length more = ap (λ (r : List Command). length (drop 1 r)) is in
      let one : length (client.log.lines ++ line ∷ []) ≡ length client.log.lines + 1 = length-append client.log.lines (line ∷ []) in
      let lines = counted.lines in
      let learns = counted.learns in
      let most = few client.progress.learned in
      record { lines = omega (arith, all, left, one, lines); learns = omega (arith, all, left, learns, most) }

  waits : (f : ℕ → Bool) (rest : List Command) → option_map_or f (awaited_by rest) false ≡ true → is_empty rest ≡ false
  waits f [] is = absurd (true≢false (sym is))
  waits f (c ∷ more) is = refl

  counted-with : (client : Client) (made : Option CertEntry) → IsCounted n client → IsCounted n (with_certificate client made)
  counted-with client None counted = counted
  counted-with client (Some made) counted = record { lines = counted.lines; learns = counted.learns }

  counted-stepped : (client : Client) (rest : List Command) → client.progress.rest ≡ rest → IsCounted n client → IsCounted n (stepped client rest)
  counted-stepped client [] is counted = counted
  counted-stepped client (c ∷ rest) is counted =
      let made = step client.progress.session c client.progress.taken in
      counted-with (over client made.session made.line) (certified_by client client.progress.rest) (counted-over client made.session made.line (c ∷ rest) is refl counted)

  -- ---- Each deed

  counted-does : (client : Client) (deed : Deed) → IsTrue (may client deed) → IsCounted n client → IsCounted n (does client deed)
  unfolding may
  counted-does client Learns can counted =
      counted-learn client client.progress.learned refl (and_parts (is_learned (need_of client.progress.session client.progress.rest)) (not client.progress.learned) can).1 counted
  counted-does client (Takes pinned entries) can counted = record { lines = counted.lines; learns = counted.learns }
  counted-does client (Awaits job) can counted =
      let made = counted-over client client.progress.session (awaited_line client.progress.session job) client.progress.rest refl (waits _ client.progress.rest can) counted in
      record { lines = made.lines; learns = made.learns }
  counted-does client (FindsNone newest) can counted =
      counted-over client client.progress.session (not_yet_line client.progress.session newest) client.progress.rest refl (waits _ client.progress.rest can) counted
  counted-does client Steps can counted = counted-stepped client client.progress.rest refl counted
  counted-does client Ends can counted = record { lines = counted.lines; learns = counted.learns }

  counted-done : (client : Client) (e : Event) (deed : Deed) → IsTrue (may client deed) → IsCounted n client → IsCounted n (done client e deed)
  unfolding done
  counted-done client e deed can counted =
      let made = counted-does client deed can counted in
      record { lines = made.lines; learns = made.learns }

-- ---- Each client of a play

module _ (world : World) where
  record AreCounted (s : State) : Type 0 where
    as_many : AreAsMany s
    counted : (c : ℕ) → IsCounted (length (client_plan world c).commands) (client_at s c)

  counted-apply : (s t : State) (e : Event) → apply world s e ≡ Some t → AreCounted s → AreCounted t
  counted-apply s t e made are =
      record {
        as_many = as-many-apply world s t e made are.as_many;
        counted = λ c. ⊎_elim (λ same. subst (IsCounted (length (client_plan world c).commands)) (sym same) (are.counted c)) (λ (has : HasDone world s t c e). subst (IsCounted (length (client_plan world c).commands)) (sym (has.made are.as_many)) (counted-done (length (client_plan world c).commands) (client_at s c) e has.deed has.came.may_come (are.counted c))) (after-apply world s t e made c);
      }

  counted-start : AreCounted (start world)
  counted-start =
      record {
        as_many = as-many-start world;
        counted = λ c. subst (IsCounted (length (client_plan world c).commands)) (sym (opens-standing world c)) (record { lines = omega arith; learns = omega arith });
      }

  pub counted-play : (events : List Event) (s : State) (c : ℕ) → play world events ≡ Some s → IsCounted (length (client_plan world c).commands) (client_at s c)
  counted-play events s c made =
      (kept_by_play world AreCounted counted-apply (start world) s events made counted-start).counted c
