-- What the events of the order of a run make of a run.
use Rattle.std.proofs.Common.{◌≡◌, refl, sym, ap, ◌∙◌, ℕ, zero, suc, ◌+◌, ◌<◌, Bool, true, false, List, [], ◌∷◌, ◌++◌, Some, None, unwrap_or, if◌then◌else◌, length, map, drop, arith, cond, is_some, slice_index_or}
use Rattle.std.specs.Prelude.{◌&&◌, ◌||◌, ◌^◌, All, max, filter, fold, nat_lt, not}
use Rattle.std.specs.List.{range_with_len}
use Rattle.mz_base.specs.declared.event.Event.{Event}
use Rattle.mz_base.specs.declared.event.Event.TheVariants as event
use Rattle.mz_base.specs.declared.event.Outcome.{Outcome}
use Rattle.keys.specs.declared.command.Command.{Command}
use Rattle.keys.specs.declared.command.Command.TheVariants as command
use Rattle.session_meaning.specs.declared.need.Need.{Need}
use Rattle.std.proofs.lemmas.Bool.{true≢false}
use Rattle.run_meaning.specs.Deeds.{awaited_by, need_of}
use Rattle.run_meaning.specs.Jobs.{entry_after, is_logged, is_outcome, newest, outcome_of}
use Rattle.run_meaning.specs.Numbers.{is_number}
use Rattle.run_meaning.specs.Orders.{all_made, before_step, job_came, made, most_reloads, obeyed, unless_reached}
use Rattle.run_meaning.specs.Plays.{apply, is_first, provided, with_event, with_job, with_reload as with_reload_at}
use Rattle.run_meaning.specs.States.{State, is_open, journal_of, no_progress, progress_of}
use Rattle.run_meaning.specs.Users.{is_entered}
use Rattle.run_meaning.specs.Worlds.{IsCounted, UserPlan, World, client_plan, job_at, no_client, reloads_of}
use Rattle.run_meaning.proofs.MadeLemmas.{made-legal}
use Rattle.core_steps.specs.Cores.{IsMade, IsRefused, Ran, now}
use Rattle.core_steps.specs.Followings.{obeyed_first}

-- an event that may not come makes nothing
pub made-illegal : (world : World) (s : State) (e : Event) → apply world s e ≡ None → made world s e ≡ s
unfolding made
made-illegal world s e is = ap (λ o. unwrap_or o s) is

pub made-come : (before after : Ran) (e : Event) → IsMade before e after → after ≡ now before (made before.world before.state e)
made-come before after e is =
    ap (λ w. record { world = w; state = after.state }) is.world ∙ ap (now before) (sym (made-legal before.world before.state after.state e is.state))

pub made-refused : (before after : Ran) (e : Event) → IsRefused before e after → after ≡ now before (made before.world before.state e)
made-refused before after e is =
    is.same ∙ ap (now before) (sym (made-illegal before.world before.state e is.illegal))

-- what goes on from what stands goes on from what led there
goes-on : (g h : World → State → State) (a b : Ran) → b ≡ now a (h a.world a.state) → now b (g b.world b.state) ≡ now a (g a.world (h a.world a.state))
goes-on g h a b is = ap (λ (r : Ran). now r (g r.world r.state)) is

-- the next turn of a loop: what is left of the whole after it
pub turn : (f g h : World → State → State) (a b whole : Ran) → g a.world (h a.world a.state) ≡ f a.world a.state → b ≡ now a (h a.world a.state) → now a (f a.world a.state) ≡ whole → now b (g b.world b.state) ≡ whole
turn f g h a b whole next is rest = goes-on g h a b is ∙ ap (now a) next ∙ rest

-- ---- Reloads

third-false : (a b c d : Bool) → c ≡ false → (a && (b && (c && d))) ≡ false
third-false false b c d is = refl
third-false true false c d is = refl
third-false true true c d is = ap (λ x. x && d) is

no-reload : (world : World) (s : State) (user reload : ℕ) → is_number (reloads_of world user) reload ≡ false → apply world s (event.Dict user reload) ≡ None
unfolding apply provided
no-reload world s user reload none =
    ap (λ b. if b then Some (with_event (with_reload_at s user reload) (event.Dict user reload)) else None) (third-false (is_open s) (is_number world.users user) (is_number (reloads_of world user) reload) (not (is_entered (journal_of s user) reload)) none)

-- a job that is not there makes nothing
second-false : (a b c : Bool) → b ≡ false → (a && (b && c)) ≡ false
second-false false b c is = refl
second-false true b c is = ap (λ x. x && c) is

pub no-job : (world : World) (s : State) (job : ℕ) (o : Outcome) → is_number world.jobs job ≡ false → apply world s (event.Job job o) ≡ None
unfolding apply provided
no-job world s job o none =
    ap (λ b. if b then Some (with_event (with_job s (entry_after s.logs.jobs job (job_at world job))) (event.Job job o)) else None) (second-false (is_open s || is_first job o) (is_number world.jobs job) (not (is_logged s.logs.jobs job) && is_outcome o (outcome_of (entry_after s.logs.jobs job (job_at world job)))) none)

-- the reloads of this number of these users
abbrev pub reloads_of_all : World → ℕ → State → List ℕ → State
reloads_of_all world reload s users = all_made world s (map (λ user. event.Dict user reload) users)

-- of these users, those that have a reload of this number
abbrev pub with_reload : World → ℕ → List ℕ → List ℕ
with_reload world reload users = filter (λ user. is_number (reloads_of world user) reload) users

-- the reloads of this number of so many users from this one on
abbrev pub reloads_from : World → State → ℕ → ℕ → ℕ → State
reloads_from world s reload a n = reloads_of_all world reload s (with_reload world reload (range_with_len a n))

pub reload-next : (world : World) (s : State) (reload a n : ℕ) → reloads_from world s reload a (suc n) ≡ reloads_from world (made world s (event.Dict a reload)) reload (a + 1) n
reload-next world s reload a n = by_test (is_number (reloads_of world a) reload) refl
  where
    by_test : (b : Bool) → is_number (reloads_of world a) reload ≡ b → reloads_of_all world reload s (cond b (a ∷ with_reload world reload (range_with_len (a + 1) n)) (with_reload world reload (range_with_len (a + 1) n))) ≡ reloads_of_all world reload (made world s (event.Dict a reload)) (with_reload world reload (range_with_len (a + 1) n))
    by_test true is = refl
    by_test false is =
        ap (λ t. reloads_of_all world reload t (with_reload world reload (range_with_len (a + 1) n))) (sym (made-illegal world s (event.Dict a reload) (no-reload world s a reload is)))

-- ---- A wait

-- once it is reached no further job comes
pub stays-reached : (world : World) (wanted : ℕ) (s : State) (jobs : List ℕ) → nat_lt (newest s.logs.jobs) wanted ≡ false → fold (unless_reached world wanted) s jobs ≡ s
stays-reached world wanted s [] reached = refl
stays-reached world wanted s (job ∷ jobs) reached =
    ap (λ b. fold (unless_reached world wanted) (if b then job_came world s job else s) jobs) reached ∙ stays-reached world wanted s jobs reached

-- ---- The commands of a client

pub obeyed-next : (world : World) (client : ℕ) (s : State) (commands : List Command) → fold (obeyed world client) (obeyed_first world client s commands) (drop 1 commands) ≡ fold (obeyed world client) s commands
obeyed-next world client s [] = refl
obeyed-next world client s (c ∷ commands) = refl

drop-suc : {A : Type 0} (index : ℕ) (items : List A) → drop (suc index) items ≡ drop 1 (drop index items)
drop-suc zero items = refl
drop-suc (suc index) [] = refl
drop-suc (suc index) (x ∷ items) = drop-suc index items

-- the commands after the next one
pub drop-next : {A : Type 0} (index : ℕ) (items : List A) → drop (index + 1) items ≡ drop 1 (drop index items)
drop-next index items = let next : index + 1 ≡ suc index = omega arith in ap (λ n. drop n items) next ∙ drop-suc index items

-- some are left at an index of the list
pub drop-some : {A : Type 0} (index : ℕ) (items : List A) → index < length items → 0 < length (drop index items)
drop-some zero items within = within
drop-some (suc index) [] within = absurd (omega (arith, within))
drop-some (suc index) (x ∷ items) within = drop-some index items (omega (arith, within))

pub plan-at : (world : World) (place : ℕ) → client_plan world (place + 1) ≡ slice_index_or world.clients place no_client
plan-at world place = let next : place + 1 ≡ suc place = omega arith in ap (client_plan world) next

pub progress-at : (s : State) (place : ℕ) → progress_of s (place + 1) ≡ slice_index_or s.clients place no_progress
progress-at s place = let next : place + 1 ≡ suc place = omega arith in ap (progress_of s) next

-- what a command but a wait makes
abbrev pub step_events : State → ℕ → Need → List Event
step_events s client need = before_step need client (newest s.logs.jobs) ++ event.Step client ∷ []

pub steps-first : (world : World) (client : ℕ) (s : State) (n : Need) (commands : List Command) → 0 < length commands → awaited_by commands ≡ None → n ≡ need_of (progress_of s client).session commands → all_made world s (step_events s client n) ≡ obeyed_first world client s commands
steps-first world client s n [] some none is = absurd (omega (arith, some))
steps-first world client s n (command.Await wanted ∷ rest) some none is = absurd (true≢false (ap is_some none))
steps-first world client s n (command.Key key ∷ rest) some none is = ap (λ m. all_made world s (step_events s client m)) is
steps-first world client s n (command.Select k ∷ rest) some none is = ap (λ m. all_made world s (step_events s client m)) is
steps-first world client s n (command.Reset ∷ rest) some none is = ap (λ m. all_made world s (step_events s client m)) is
steps-first world client s n (command.ExpectPreedit text ∷ rest) some none is = ap (λ m. all_made world s (step_events s client m)) is
steps-first world client s n (command.ExpectResult text ∷ rest) some none is = ap (λ m. all_made world s (step_events s client m)) is

-- ---- The most reloads of a user

most-from : (users : List UserPlan) (most : ℕ) → most < 2 ^ 32 → All (λ (user : UserPlan). IsCounted user.reloads) users → fold (λ most (user : UserPlan). max most (length user.reloads)) most users < 2 ^ 32
most-from [] most few all = few
most-from (user ∷ users) most few all =
    let head : length user.reloads < 2 ^ 32 = all 0 user (omega arith) in
    most-from users (max most (length user.reloads)) (omega (arith, few, head)) (λ place none within. all (suc place) none (omega (arith, within)))

-- they are fewer than 2^32
pub most-few : (world : World) → All (λ (user : UserPlan). IsCounted user.reloads) world.users → most_reloads world < 2 ^ 32
most-few world all = most-from world.users 0 (omega arith) all
