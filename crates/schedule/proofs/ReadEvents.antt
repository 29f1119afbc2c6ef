-- The events of a file name users and clients that are there, and their numbers are in range.
use Rattle.std.proofs.Common.{ℕ, ◌+◌, ◌<◌, ◌≤◌, Bool, true, false, ◌==◌, List, [], ◌∷◌, Option, Some, None, option_map, option_and_then, codes, length, nat_le, bytes_eq, encode_utf8_all, if◌then◌else◌, subst, sym, arith, inl, inr}
use Rattle.std.specs.List.{AllByRecursion}
use Rattle.std.specs.Str.{is_utf8}
use Rattle.std.proofs.lemmas.Bool.{cases_Bool}
use Rattle.std.proofs.lemmas.Bool.Decides.{nat_tests}
use Rattle.std.proofs.lemmas.List.Elements.{All-from_recursion}
use Rattle.mz_base.specs.Lines.{fields_of}
use Rattle.mz_base.specs.Numbers.{number_of}
use Rattle.mz_base.specs.declared.event.Event.{Event}
use Rattle.mz_base.specs.declared.event.Event.TheVariants as event
use Rattle.mz_base.specs.declared.logs.Names.{Names}
use Rattle.schedule.specs.Events.{WhoIs, alone, both, event_in, event_of, in_range, number_in, of_client, of_two, outcome_in}
use Rattle.schedule.specs.Names.{IsOneOf, number_from, number_of_name, who_is}
use Rattle.schedule.specs.Readings.{Part, after_event, below, is_end, is_heading, no_event, part_in, part_of}
use Rattle.schedule.specs.Written.{CanBePrinted, EventsCanBePrinted}
use Rattle.schedule.specs.declared.event_line.TheConstants.{MOST_NUMBER}

-- what is there has this property
abbrev Each : {A : Type 0} → (A → Type 0) → Option A → Type 0
Each P None = Unit {0}
Each P (Some a) = P a

each-pick : {A : Type 0} (P : A → Type 0) (b : Bool) (x y : A) → P x → P y → P (if b then x else y)
each-pick P true x y here there = here
each-pick P false x y here there = there

each-map : {A : Type 0} (P : A → Type 0) (Q : Event → Type 0) (made : A → Event) (found : Option A) → ((a : A) → P a → Q (made a)) → Each P found → Each Q (option_map made found)
each-map P Q made None good each = tt
each-map P Q made (Some a) good each = good a each

each-both : {A B : Type 0} (P : A → Type 0) (R : B → Type 0) (Q : Event → Type 0) (made : A → B → Event) (first : Option A) (second : Option B) → ((a : A) (b : B) → P a → R b → Q (made a b)) → Each P first → Each R second → Each Q (both made first second)
each-both P R Q made None second good one two = tt
each-both P R Q made (Some a) None good one two = tt
each-both P R Q made (Some a) (Some b) good one two = good a b one two

-- ---- Names and numbers

abbrev IsFrom : ℕ → List (List ℕ) → ℕ → Type 0
IsFrom first names number = (first ≤ number) × (number < first + length names)

number_from-bounds : (names : List (List ℕ)) (first : ℕ) (field : List ℕ) → Each (IsFrom first names) (number_from first names field)
number_from-bounds [] first field = tt
number_from-bounds (name ∷ names) first field =
    each-pick (Each (IsFrom first (name ∷ names))) (bytes_eq (encode_utf8_all name) field) (Some first) (number_from (first + 1) names field) (omega arith, omega arith) (further (number_from (first + 1) names field) (number_from-bounds names (first + 1) field))
  where
    further : (found : Option ℕ) → Each (IsFrom (first + 1) names) found → Each (IsFrom first (name ∷ names)) found
    further None each = tt
    further (Some n) each = (omega (arith, each.0), omega (arith, each.1))

one_of : (names : List (List ℕ)) (field : List ℕ) → Each (IsOneOf names) (number_of_name names field)
one_of names field =
    by_bounds (number_of_name names field) (number_from-bounds names 1 field)
  where
    by_bounds : (found : Option ℕ) → Each (IsFrom 1 names) found → Each (IsOneOf names) found
    by_bounds None each = tt
    by_bounds (Some n) each = record { first = each.0; last = omega (arith, each.1) }

abbrev IsSmall : ℕ → Type 0
IsSmall n = n ≤ MOST_NUMBER

small : (field : List ℕ) → Each IsSmall (number_in field)
small field =
    by_number (number_of field)
  where
    in_it : (n : ℕ) → Each IsSmall (in_range n)
    in_it n =
        elim (cases_Bool (nat_le n MOST_NUMBER)) [
          | inl is ↦ subst (λ b. Each IsSmall (if b then Some n else None)) (sym is) (let low : n ≤ MOST_NUMBER = grind (arith, nat_tests) in low)
          | inr other ↦ subst (λ b. Each IsSmall (if b then Some n else None)) (sym other) tt
        ]

    by_number : (found : Option ℕ) → Each IsSmall (option_and_then in_range found)
    by_number None = tt
    by_number (Some n) = in_it n

-- ---- Events

module _ (names : Names) where
  abbrev who : WhoIs
  who = who_is names

  abbrev IsGood : Option Event → Type 0
  IsGood found = Each (CanBePrinted names) found

  alone-good : (word : List ℕ) → IsGood (alone word)
  alone-good word = each-pick IsGood (bytes_eq word (codes "close")) (Some event.Close) None (tt, tt) tt

  client-good : (made : ℕ → Event) → ((c : ℕ) → IsOneOf names.clients c → CanBePrinted names (made c)) → (field : List ℕ) → IsGood (option_map made (who.client field))
  client-good made good field =
      each-map (IsOneOf names.clients) (CanBePrinted names) made (who.client field) good (one_of names.clients field)

  of_client-good : (word name : List ℕ) → IsGood (of_client who.client word name)
  unfolding of_client
  of_client-good word name =
      each-pick IsGood (bytes_eq word (codes "step")) _ _ (client-good (λ c. event.Step c) (λ c is. (is, tt)) name)
      (each-pick IsGood (bytes_eq word (codes "learn")) _ _ (client-good (λ c. event.Learn c) (λ c is. (is, tt)) name)
      (each-pick IsGood (bytes_eq word (codes "notyet")) _ _ (client-good (λ c. event.NotYet c) (λ c is. (is, tt)) name)
      (each-pick IsGood (bytes_eq word (codes "end")) _ _ (client-good (λ c. event.End c) (λ c is. (is, tt)) name) tt)))

  of_two-good : (word field last : List ℕ) → IsGood (of_two who word field last)
  unfolding of_two
  of_two-good word field last =
      each-pick IsGood (bytes_eq word (codes "take")) _ _ (each-both (IsOneOf names.clients) IsSmall (CanBePrinted names) (λ c k. event.Take c k) (who.client field) (number_in last) (λ c k is low. (is, low)) (one_of names.clients field) (small last))
      (each-pick IsGood (bytes_eq word (codes "await")) _ _ (each-both (IsOneOf names.clients) IsSmall (CanBePrinted names) (λ c k. event.Await c k) (who.client field) (number_in last) (λ c k is low. (is, low)) (one_of names.clients field) (small last))
      (each-pick IsGood (bytes_eq word (codes "job")) _ _ (each-both IsSmall (λ o. Unit {0}) (CanBePrinted names) (λ j o. event.Job j o) (number_in field) (outcome_in last) (λ j o low any. (tt, low)) (small field) (any (outcome_in last)))
      (each-pick IsGood (bytes_eq word (codes "dict")) _ _ (each-both (IsOneOf names.users) IsSmall (CanBePrinted names) (λ u r. event.Dict u r) (who.user field) (number_in last) (λ u r is low. (is, low)) (one_of names.users field) (small last)) tt)))
    where
      any : {A : Type 0} (found : Option A) → Each (λ o. Unit {0}) found
      any None = tt
      any (Some o) = tt

  event_in-good : (fields : List (List ℕ)) → IsGood (event_in who fields)
  event_in-good [] = tt
  event_in-good (word ∷ []) = alone-good word
  event_in-good (word ∷ field ∷ []) = of_client-good word field
  event_in-good (word ∷ field ∷ last ∷ []) = of_two-good word field last
  event_in-good (word ∷ field ∷ last ∷ more ∷ rest) = tt

  event_of-good : (line : List ℕ) → IsGood (event_of who line)
  event_of-good line =
      each-pick IsGood (is_utf8 line) (event_in who (fields_of line)) None (event_in-good (fields_of line)) tt

  -- ---- Parts

  abbrev AreGood : Part → Type 0
  AreGood part = AllByRecursion (λ (found : ℕ × Event). CanBePrinted names found.1) part.events

  after_event-good : (number : ℕ) (found : Option Event) (rest : Part) → IsGood found → AreGood rest → AreGood (after_event number found rest)
  after_event-good number None rest good all = tt
  after_event-good number (Some event) rest good all = (good, all)

  part-good : (number : ℕ) (lines : List (List ℕ)) → AreGood (part_of who number lines)
  part-good number [] = tt
  part-good number (line ∷ lines) =
      let further = part-good (number + 1) lines in
      each-pick AreGood (length line == 0) _ _ further
      (each-pick AreGood (is_end line) no_event _ tt (after_event-good number (event_of who line) (part_of who (number + 1) lines) (event_of-good line) further))

  below-good : (number : ℕ) (lines : List (List ℕ)) (part : Part) → AreGood part → AreGood (below who number lines part)
  below-good number [] part all = all
  below-good number (line ∷ lines) part all =
      each-pick AreGood (is_heading line) _ _ (part-good (number + 1) lines) (below-good (number + 1) lines part all)

  pub events-good : (lines : List (List ℕ)) → EventsCanBePrinted names lines
  events-good lines =
      All-from_recursion (λ (found : ℕ × Event). CanBePrinted names found.1) (part_in who lines).events (below-good 1 lines (part_of who 1 lines) (part-good 1 lines))
