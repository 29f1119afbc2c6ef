-- What a deed of a client adds to the logs of a state.
use Rattle.std.proofs.Common.{◌≡◌, refl, sym, ap, ◌∙◌, ℕ, zero, suc, ◌-◌, ◌<◌, List, [], ◌∷◌, ◌++◌, Option, Some, None, append-nil, arith, slice_index_or, slice_set}
use Rattle.std.specs.Prelude.{option_to_list}
use Rattle.mz_base.specs.declared.event.Event.{Event}
use Rattle.mz_base.specs.declared.logs.CertEntry.{CertEntry}
use Rattle.mz_base.specs.declared.logs.ClientLog.{ClientLog}
use Rattle.mz_base.specs.declared.logs.Logs.{Logs}
use Rattle.keys.specs.declared.command.Command.{Command}
use Rattle.session_meaning.specs.Steps.{step}
use Rattle.run_meaning.specs.Deeds.{Deed, Awaits, Ends, FindsNone, Learns, Steps, Takes, certificate_of, certified_by, does, done, entries_of, over, stepped, with_certificate}
use Rattle.run_meaning.specs.Plays.{certified, did, with_entries}
use Rattle.run_meaning.specs.States.{Client, State, client_at, no_client_log}
use Rattle.run_meaning.specs.Worlds.{World, user_of}
use Rattle.core_steps.specs.Additions.{added, beside_certificate, beside_of, line_of, line_of_step, noted_at, noted_in, own_of, with_beside}

-- ---- The client's own log

unlined : (log : ClientLog) → log ≡ record log { lines = log.lines ++ [] }
unlined log = ap (λ lines. record log { lines = lines }) (sym (append-nil log.lines))

with-log : (client : Client) (made : Option CertEntry) → (with_certificate client made).log ≡ client.log
with-log client None = refl
with-log client (Some made) = refl

stepped-log : (client : Client) (rest : List Command) → (stepped client rest).log ≡ record client.log { lines = client.log.lines ++ option_to_list (line_of_step client.progress rest) }
stepped-log client [] = unlined client.log
stepped-log client (c ∷ rest) =
    let made = step client.progress.session c client.progress.taken in
    with-log (over client made.session made.line) (certified_by client client.progress.rest)

does-log : (client : Client) (deed : Deed) → (does client deed).log ≡ record client.log { lines = client.log.lines ++ option_to_list (line_of client deed) }
does-log client Learns = unlined client.log
does-log client (Takes pinned entries) = unlined client.log
does-log client (Awaits job) = refl
does-log client (FindsNone newest) = refl
does-log client Steps = stepped-log client client.progress.rest
does-log client Ends = unlined client.log

done-log : (client : Client) (e : Event) (deed : Deed) → (done client e deed).log ≡ noted_in client.log (own_of e deed) (line_of client deed)
unfolding done
done-log client e deed =
    let here = does-log client deed in
    λ i. record (here i) { own = (here i).own ++ own_of e deed ∷ [] }

-- ---- What stands beside it

abbrev with_both : Logs → ℕ → Client → Deed → Logs
with_both logs user client deed =
    record logs { users = with_entries logs.users user (entries_of client deed); certificates = certified logs.certificates (certificate_of client deed) }

both-certificate : (logs : Logs) (user : ℕ) (made : Option CertEntry) → record logs { certificates = certified logs.certificates made } ≡ with_beside logs user (beside_certificate made)
both-certificate logs user None = refl
both-certificate logs user (Some made) = refl

both-beside : (logs : Logs) (user : ℕ) (client : Client) (deed : Deed) → with_both logs (suc user) client deed ≡ with_beside logs user (beside_of client deed)
both-beside logs user client Learns = refl
both-beside logs user client (Takes pinned entries) = refl
both-beside logs user client (Awaits job) = refl
both-beside logs user client (FindsNone newest) = refl
both-beside logs user client Steps = both-certificate logs user (certified_by client client.progress.rest)
both-beside logs user client Ends = refl

-- ---- All logs

-- the logs with this log of the client at a place, and what a deed adds for a user
abbrev with_all : Logs → ℕ → ClientLog → ℕ → Event → Client → Deed → Logs
with_all logs place log user e client deed =
    record logs {
      clients = slice_set logs.clients place log;
      users = with_entries logs.users user (entries_of client deed);
      events = logs.events ++ e ∷ [];
      certificates = certified logs.certificates (certificate_of client deed);
    }

all-added : (logs : Logs) (place user : ℕ) (e : Event) (client : Client) (deed : Deed) → client.log ≡ slice_index_or logs.clients place no_client_log → with_all logs place (done client e deed).log (suc user) e client deed ≡ added logs place user (own_of e deed) (line_of client deed) (beside_of client deed)
all-added logs place user e client deed log =
    let noted = done-log client e deed ∙ ap (λ before. noted_in before (own_of e deed) (line_of client deed)) log in
    ap (λ after. with_all logs place after (suc user) e client deed) noted ∙ both-beside (record logs { clients = noted_at logs.clients place (own_of e deed) (line_of client deed); events = logs.events ++ e ∷ [] }) user client deed

-- of the client and the user at these places
logs-did : (world : World) (s : State) (place user : ℕ) (deed : Deed) (e : Event) → user_of world (suc place) ≡ suc user → (did world s (suc place) deed e).logs ≡ added s.logs place user (own_of e deed) (line_of (client_at s (suc place)) deed) (beside_of (client_at s (suc place)) deed)
unfolding did client_at
logs-did world s place user deed e of_user =
    let client = client_at s (suc place) in
    ap (λ number. with_all s.logs place (done client e deed).log number e client deed) of_user ∙ all-added s.logs place user e client deed refl

-- the same by the numbers of the client and its user
pub logs-did-at : (world : World) (s : State) (c : ℕ) (deed : Deed) (e : Event) → 0 < c → 0 < user_of world c → (did world s c deed e).logs ≡ added s.logs (c - 1) (user_of world c - 1) (own_of e deed) (line_of (client_at s c) deed) (beside_of (client_at s c) deed)
logs-did-at world s zero deed e there user = absurd (omega (arith, there))
logs-did-at world s (suc place) deed e there user =
    let of_user : user_of world (suc place) ≡ suc (user_of world (suc place) - 1) = omega (arith, user) in
    let at : suc place - 1 ≡ place = omega arith in
    rw at (logs-did world s place (user_of world (suc place) - 1) deed e of_user)
