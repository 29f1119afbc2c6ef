-- The pairs that a client's own events learn.
use Rattle.std.proofs.Common.{◌≡◌, ◌≢◌, refl, sym, ap, subst, ◌∙◌, ⊎_elim, ℕ, ◌+◌, Bool, true, false, List, [], ◌∷◌, ◌++◌, Option, Some, None, length, append_assoc, append-nil, filter_map}
use Rattle.std.specs.Prelude.{if◌then◌else◌}
use Rattle.std.specs.Option.{option_map_or}
use Rattle.std.proofs.lemmas.Bool.{cases_eq}
use Rattle.std.proofs.lemmas.List.Elements.{filter_map-append}
use Rattle.std.proofs.lemmas.Option.{option_and_then_some, same_Some}
use Rattle.mz_base.specs.declared.event.Event.{Event}
use Rattle.mz_base.specs.declared.event.Outcome.{Outcome}
use Rattle.mz_base.specs.declared.lattice.Pair.{Pair}
use Rattle.mz_base.specs.declared.logs.Own.{Own}
use Rattle.mz_base.specs.declared.logs.UserEntry.{UserEntry}
use Rattle.mz_base.specs.declared.logs.UserEntry.TheVariants as entry
use Rattle.run_meaning.specs.Deeds.{Deed, done, entries_of}
use Rattle.run_meaning.specs.JournalLaws.{EntriesAreItsOwn, IsUserThere, end_if, entries_by, is_learn, its_entries, numbered, pairs_learned, pairs_next}
use Rattle.run_meaning.specs.Plays.{apply, did}
use Rattle.run_meaning.specs.SoloLaws.{around_in}
use Rattle.run_meaning.specs.Solos.{Around, alone, alone_after}
use Rattle.run_meaning.specs.States.{Client, State, client_at, journal_of, start}
use Rattle.run_meaning.specs.Worlds.{World, user_of}
use Rattle.run_meaning.proofs.ClientLemmas.{own-did}
use Rattle.run_meaning.proofs.EventKinds.{IsDeed, MayCome, after_close, after_job, after_reload, awaiting, by_kind, ending, finding_none, kept_by_play, learning, stepping, taking}
use Rattle.run_meaning.proofs.GrowthLemmas.{left-close, left-job, left-reload, others-did}
use Rattle.run_meaning.proofs.JournalLemmas.{Journals, by-quiet, its-did, its-other, journals-apply, journals-start}
use Rattle.run_meaning.proofs.LogAnswers.{empty-journals}
use Rattle.run_meaning.proofs.SoloLemmas.{Begins, Follows, begins-before, begins-in, done-own, follows-apply, follows-start, no-own, own_of}
use Rattle.run_meaning.proofs.ClientLemmas.{as-many-apply}

-- ---- The pairs of learns

abbrev pairs_in_entry : UserEntry → Option (List Pair)
pairs_in_entry (entry.Learn client seq pairs) = Some pairs
pairs_in_entry _ = None

abbrev pairs_in : List UserEntry → List (List Pair)
pairs_in entries = filter_map pairs_in_entry entries

pairs-numbered : (c from : ℕ) (learned : List (List Pair)) (ended : Bool) (count : ℕ) → pairs_in (numbered c from learned ++ end_if ended c count) ≡ learned
pairs-numbered c from [] true count = refl
pairs-numbered c from [] false count = refl
pairs-numbered c from (pairs ∷ learned) ended count = ap (λ rest. pairs ∷ rest) (pairs-numbered c (from + 1) learned ended count)

-- what a deed enters
pairs-deed : (world : World) (s : State) (c : ℕ) (client : Client) (e : Event) (given : Bool) (deed : Deed) → IsDeed world s c e given deed → pairs_in (entries_of client deed) ≡ (if is_learn e then pairs_next client ∷ [] else [])
pairs-deed world s c client e given deed learning = refl
pairs-deed world s c client e given deed (taking job) = refl
pairs-deed world s c client e given deed stepping = refl
pairs-deed world s c client e given deed (awaiting job) = refl
pairs-deed world s c client e given deed finding_none = refl
pairs-deed world s c client e given deed ending = refl

-- ---- An own event more

module _ (world : World) (around : Around) (o : Own) where
  abbrev last_pairs : Client → List (List Pair)
  last_pairs client = if is_learn o.event then pairs_next client ∷ [] else []

  none-further : (after : Option Client) → option_map_or (λ next. pairs_learned world around next []) after [] ≡ []
  none-further None = refl
  none-further (Some client) = refl

  pairs-more : (own : List Own) (opening client : Client) → alone world around opening own ≡ Some client → pairs_learned world around opening (own ++ o ∷ []) ≡ pairs_learned world around opening own ++ last_pairs client
  pairs-more [] opening client made =
      ap (λ rest. last_pairs opening ++ rest) (none-further (alone_after world around opening o)) ∙ append-nil (last_pairs opening) ∙ ap last_pairs (same_Some opening client made)
  pairs-more (first ∷ own) opening client made =
      let front : List (List Pair) = if is_learn first.event then pairs_next opening ∷ [] else [] in
      option_and_then_some (λ next. alone world around next own) (alone_after world around opening first) client made (λ next here rest. ap (λ after. front ++ option_map_or (λ n. pairs_learned world around n (own ++ o ∷ [])) after []) here ∙ ap (λ more. front ++ more) (pairs-more own next client rest) ∙ sym (append_assoc front (pairs_learned world around next own) (last_pairs client)) ∙ ap (λ after. (front ++ option_map_or (λ n. pairs_learned world around n own) after []) ++ last_pairs client) (sym here))

-- ---- Each event

module _ (world : World) where
  -- the pairs of a client's entries are those that its own events learn
  abbrev AreItsOwn : ℕ → Around → List UserEntry → List Own → Type 0
  AreItsOwn c around entries own = pairs_in entries ≡ pairs_learned world around (client_at (start world) c) own

  record Learned (s : State) : Type 0 where
    pub journals : Journals world s
    pub follows : Follows world s
    pub pairs : (c : ℕ) → IsUserThere world c → (around : Around) → Begins world s c around → AreItsOwn c around (its_entries world s c) (client_at s c).log.own

  -- what they become by an event, with all that the state's log and journal become
  abbrev Becomes : State → Event → State → Type 0
  Becomes s e t = Learned s → (c : ℕ) → IsUserThere world c → (around : Around) → Begins world s c around → AreItsOwn c around (its_entries world t c) (client_at t c).log.own

  -- where the client and its entries are left
  pairs-left : (s t : State) (c : ℕ) → client_at t c ≡ client_at s c → its_entries world t c ≡ its_entries world s c → (around : Around) → AreItsOwn c around (its_entries world s c) (client_at s c).log.own → AreItsOwn c around (its_entries world t c) (client_at t c).log.own
  pairs-left s t c left same around are =
      subst (λ (client : Client). AreItsOwn c around (its_entries world t c) client.log.own) (sym left) (subst (λ es. AreItsOwn c around es (client_at s c).log.own) (sym same) are)

  its-job : (s : State) (job : ℕ) (o : Outcome) (c : ℕ) → its_entries world (after_job world s job o) c ≡ its_entries world s c
  unfolding journal_of
  its-job s job o c = refl

  its-close : (s : State) (c : ℕ) → its_entries world (after_close s) c ≡ its_entries world s c
  unfolding journal_of
  its-close s c = refl

  its-reload : (s : State) (user reload c : ℕ) → its_entries world (after_reload s user reload) c ≡ its_entries world s c
  unfolding journal_of
  its-reload s user reload c = by-quiet s.logs.users user (entry.Dict reload ∷ []) (user_of world c) c refl

  pairs-own : (s : State) (c : ℕ) (e : Event) (deed : Deed) → MayCome world s c e deed → Learned s → IsUserThere world c → (around : Around) → Begins world s c around → AreItsOwn c around (its_entries world (did world s c deed e) c) (client_at (did world s c deed e) c).log.own
  pairs-own s c e deed came before there around begins =
      let client = client_at s c in
      let opening = client_at (start world) c in
      let own = own_of e deed in
      let entries = its_entries world s c in
      let is : client_at (did world s c deed e) c ≡ done client e deed = own-did world s c e deed came.number before.journals.as_many in
      let whole : pairs_in (entries ++ entries_of client deed) ≡ pairs_learned world around opening (client.log.own ++ own ∷ []) = filter_map-append pairs_in_entry entries (entries_of client deed) ∙ ap (λ rest. pairs_in entries ++ rest) (pairs-deed world s c client e came.given deed came.is) ∙ ap (λ front. front ++ (if is_learn e then pairs_next client ∷ [] else [])) (before.pairs c there around begins) ∙ sym (pairs-more world around own client.log.own opening client (before.follows.follows c around begins)) in
      ap pairs_in (its-did world s c e deed before.journals.users there) ∙ whole ∙ ap (pairs_learned world around opening) (sym (done-own client e deed)) ∙ ap (λ (after : Client). pairs_learned world around opening after.log.own) (sym is)

  pairs-did : (s : State) (d : ℕ) (e : Event) (deed : Deed) → MayCome world s d e deed → Becomes s e (did world s d deed e)
  pairs-did s d e deed came before c there around begins = ⊎_elim here elsewhere (cases_eq d c)
    where
      after : State
      after = did world s d deed e

      here : d ≡ c → AreItsOwn c around (its_entries world after c) (client_at after c).log.own
      here same =
          subst (λ n. IsUserThere world n → Begins world s n around → AreItsOwn n around (its_entries world after n) (client_at after n).log.own) same (λ there begins. pairs-own s d e deed came before there around begins) there begins

      elsewhere : d ≢ c → AreItsOwn c around (its_entries world after c) (client_at after c).log.own
      elsewhere apart =
          pairs-left s after c (others-did world s d c e deed apart) (its-other world s d c (user_of world c) e deed apart) around (before.pairs c there around begins)

  pairs-apply : (s t : State) (e : Event) → apply world s e ≡ Some t → Becomes s e t
  pairs-apply =
      by_kind world Becomes (λ s job o legal before c there around begins. pairs-left s (after_job world s job o) c (left-job world s job o c) (its-job s job o c) around (before.pairs c there around begins)) (λ s legal before c there around begins. pairs-left s (after_close s) c (left-close s c) (its-close s c) around (before.pairs c there around begins)) (λ s user reload legal before c there around begins. pairs-left s (after_reload s user reload) c (left-reload s user reload c) (its-reload s user reload c) around (before.pairs c there around begins)) pairs-did

  learned-apply : (s t : State) (e : Event) → apply world s e ≡ Some t → Learned s → Learned t
  learned-apply s t e made before =
      record {
        journals = journals-apply world s t e made (as-many-apply world s t e made before.journals.as_many) before.journals;
        follows = follows-apply world s t e made before.follows;
        pairs = λ c there around begins. pairs-apply s t e made before c there around (begins-before world s t e c around made before.follows.full begins);
      }

  learned-start : Learned (start world)
  learned-start =
      record {
        journals = journals-start world;
        follows = follows-start world;
        pairs = λ c there around begins. subst (λ journal. AreItsOwn c around (entries_by c journal) (client_at (start world) c).log.own) (sym (empty-journals world (user_of world c))) (ap (pairs_learned world around (client_at (start world) c)) (sym (no-own world c)));
      }

pub entries_are_its_own : EntriesAreItsOwn
entries_are_its_own world events s c made there =
    let it = kept_by_play world (Learned world) (learned-apply world) (start world) s events made (learned-start world) in
    let held = it.journals.own c there in
    let own = (client_at s c).log.own in
    let ended = (client_at s c).progress.ended in
    let learned = pairs_learned world (around_in world s c) (client_at (start world) c) own in
    let same : held.learned ≡ learned = sym (pairs-numbered c 1 held.learned ended (length held.learned)) ∙ ap pairs_in (sym held.are) ∙ it.pairs c there (around_in world s c) (begins-in world s c) in
    held.are
    ∙ ap (λ pairs. numbered c 1 pairs ++ end_if ended c (length held.learned)) same
    ∙ ap (λ n. numbered c 1 learned ++ end_if ended c n) (held.as_many ∙ held.counted)
