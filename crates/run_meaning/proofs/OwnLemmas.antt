-- What is noted as a client's own.
use Rattle.std.proofs.Common.{◌≡◌, ◌≢◌, refl, sym, ap, subst, ◌∙◌, ⊎_elim, ℕ, ◌<◌, ◌==◌, Bool, cond, List, [], ◌∷◌, ◌++◌, Some, filter, map, arith, append-nil}
use Rattle.std.proofs.lemmas.Bool.{cases_eq, eq-eqb, ne_eqb}
use Rattle.std.proofs.lemmas.List.{map_push}
use Rattle.std.proofs.lemmas.List.Elements.{filter-append}
use Rattle.mz_base.specs.declared.event.Event.{Event}
use Rattle.mz_base.specs.declared.event.Event.TheVariants as event
use Rattle.mz_base.specs.declared.logs.Own.{Own}
use Rattle.run_meaning.specs.Deeds.{Deed}
use Rattle.run_meaning.specs.NoteLaws.{OwnAreNoted}
use Rattle.run_meaning.specs.Plays.{apply, did}
use Rattle.run_meaning.specs.Solos.{client_of}
use Rattle.run_meaning.specs.States.{Client, State, client_at, start}
use Rattle.run_meaning.specs.Worlds.{World}
use Rattle.run_meaning.proofs.ClientLemmas.{AreAsMany, as-many-apply, as-many-start, own-did}
use Rattle.run_meaning.proofs.EventKinds.{MayCome, by_kind, kept_by_play}
use Rattle.run_meaning.proofs.GrowthLemmas.{client-is, left-close, left-job, left-reload, others-did}
use Rattle.run_meaning.proofs.NoteLemmas.{noted-apply, noted-play}
use Rattle.run_meaning.proofs.SoloLemmas.{done-own, no-own, own_of}

abbrev is_of : ℕ → Event → Bool
is_of c e = client_of e == c

abbrev event_of : Own → Event
event_of own = own.event

-- the events of a client's own
abbrev events_of : Client → List Event
events_of client = map event_of client.log.own

-- an event more in a list, of which a client has it or not
of-own : (c : ℕ) (e : Event) (front : List Event) → client_of e ≡ c → front ++ filter (is_of c) (e ∷ []) ≡ front ++ e ∷ []
of-own c e front is = ap (λ b. front ++ cond b (e ∷ []) []) (eq-eqb (client_of e) c is)

of-other : (c : ℕ) (e : Event) (front : List Event) → client_of e ≢ c → front ++ filter (is_of c) (e ∷ []) ≡ front
of-other c e front apart = ap (λ b. front ++ cond b (e ∷ []) []) (ne_eqb (client_of e) c apart) ∙ append-nil front

-- a client after an event has it as its own, where it is its
abbrev IsNoted : State → Event → State → Type 0
IsNoted s e t = AreAsMany s → (c : ℕ) → 0 < c → events_of (client_at t c) ≡ events_of (client_at s c) ++ filter (is_of c) (e ∷ [])

-- an event of none
noted-none : (s t : State) (e : Event) (c : ℕ) → client_of e ≡ 0 → 0 < c → client_at t c ≡ client_at s c → events_of (client_at t c) ≡ events_of (client_at s c) ++ filter (is_of c) (e ∷ [])
noted-none s t e c none some same =
    ap events_of same ∙ sym (of-other c e (events_of (client_at s c)) (λ it. let of_it : client_of e ≡ c = it in absurd (omega (arith, none, of_it, some))))

module _ (world : World) where
  noted-did : (s : State) (d : ℕ) (e : Event) (deed : Deed) → MayCome world s d e deed → IsNoted s e (did world s d deed e)
  noted-did s d e deed came many c some = ⊎_elim here there (cases_eq d c)
    where
      after : State
      after = did world s d deed e

      is : client_of e ≡ d
      is = client-is world s d e came.given deed came.is

      own : events_of (client_at after d) ≡ events_of (client_at s d) ++ e ∷ []
      own =
          ap events_of (own-did world s d e deed came.number many) ∙ ap (map event_of) (done-own (client_at s d) e deed) ∙ map_push event_of (client_at s d).log.own (own_of e deed)

      here : d ≡ c → events_of (client_at after c) ≡ events_of (client_at s c) ++ filter (is_of c) (e ∷ [])
      here same =
          subst (λ n. events_of (client_at after n) ≡ events_of (client_at s n) ++ filter (is_of n) (e ∷ [])) same (own ∙ sym (of-own d e (events_of (client_at s d)) is))

      there : d ≢ c → events_of (client_at after c) ≡ events_of (client_at s c) ++ filter (is_of c) (e ∷ [])
      there apart =
          ap events_of (others-did world s d c e deed apart) ∙ sym (of-other c e (events_of (client_at s c)) (λ it. apart (sym is ∙ it)))

  own-apply : (s t : State) (e : Event) → apply world s e ≡ Some t → IsNoted s e t
  own-apply =
      by_kind world IsNoted (λ s job o legal many c some. noted-none s _ (event.Job job o) c refl some (left-job world s job o c)) (λ s legal many c some. noted-none s _ event.Close c refl some (left-close s c)) (λ s user reload legal many c some. noted-none s _ (event.Dict user reload) c refl some (left-reload s user reload c)) noted-did

  record Notes (s : State) : Type 0 where
    pub many : AreAsMany s
    pub own : (c : ℕ) → 0 < c → events_of (client_at s c) ≡ filter (is_of c) s.logs.events

  notes-apply : (s t : State) (e : Event) → apply world s e ≡ Some t → Notes s → Notes t
  notes-apply s t e made before =
      record {
        many = as-many-apply world s t e made before.many;
        own = λ c some. own-apply s t e made before.many c some ∙ ap (λ front. front ++ filter (is_of c) (e ∷ [])) (before.own c some) ∙ sym (filter-append (is_of c) s.logs.events (e ∷ [])) ∙ ap (filter (is_of c)) (sym (noted-apply world s t e made));
      }

pub own_are_noted : OwnAreNoted
own_are_noted world events s c made some =
    let opens : Notes world (start world) = record { many = as-many-start world; own = λ c some. ap (map event_of) (no-own world c) } in
    (kept_by_play world (Notes world) (notes-apply world) (start world) s events made opens).own c some ∙ ap (filter (is_of c)) (noted-play world events s made)
