-- What is printed of events reads as these events.
use Rattle.std.proofs.Common.{◌≡◌, ℕ, ◌+◌, false, ◌==◌, List, [], ◌∷◌, ◌++◌, map, codes, length, refl, ap, sym, ◌∙◌, arith, append_assoc, inl, inr}
use Rattle.std.specs.List.{All, AllByRecursion}
use Rattle.std.proofs.lemmas.Bool.{cond-false}
use Rattle.std.proofs.lemmas.List.Elements.{recursion_from_All}
use Rattle.mz_base.specs.Lines.{lines_of}
use Rattle.mz_base.specs.declared.event.Event.{Event}
use Rattle.mz_base.specs.declared.logs.Names.{Names}
use Rattle.schedule.specs.Events.{WhoIs}
use Rattle.schedule.specs.Names.{IsNamed, who_is}
use Rattle.schedule.specs.Readings.{Part, no_event, after_event, is_end, is_heading, part_of, below, part_in, reading_with}
use Rattle.schedule.specs.Texts.{event_text, schedule_text}
use Rattle.schedule.specs.Written.{CanBeTold, IsInRange, StandsAbove, StandsBelow, all_read, file_with, ReadAgain}
use Rattle.schedule.proofs.EventRows.{IsRow, row, row-reads, event_text-row, word-line}
use Rattle.schedule.proofs.SplitLines.{text_lines, text_lines-line, lines_of-append, lines_of-text}

abbrev heading : List ℕ
heading = codes "schedule"

-- ---- Lines

module _ (names : Names) (rest : List ℕ) where
  -- the lines of events, and then those of the rest
  schedule-lines : (events : List Event) → AllByRecursion (λ event. IsRow (who_is names) event (row names event)) events → text_lines (schedule_text names events ++ rest) ≡ map (row names) events ++ text_lines rest
  schedule-lines [] rows = refl
  schedule-lines (event ∷ events) rows =
      let more = schedule_text names events ++ rest in
      let joined : schedule_text names (event ∷ events) ++ rest ≡ row names event ++ 10 ∷ more = append_assoc (event_text names event) (schedule_text names events) rest ∙ ap (λ line. line ++ more) (event_text-row names event) ∙ append_assoc (row names event) (10 ∷ []) more in
      ap text_lines joined
      ∙ text_lines-line (row names event) more rows.0.one rows.0.kept
      ∙ ap (λ lines. row names event ∷ lines) (schedule-lines events rows.1)

headed-lines : (rest : List ℕ) → text_lines (codes "schedule\n" ++ rest) ≡ heading ∷ text_lines rest
headed-lines rest = text_lines-line heading rest (word-line heading refl refl) refl

ended-lines : (rest : List ℕ) → text_lines (codes "certificates\n" ++ rest) ≡ codes "certificates" ∷ text_lines rest
ended-lines rest = text_lines-line (codes "certificates") rest (word-line (codes "certificates") refl refl) refl

lines_of-nothing : lines_of [] ≡ []
unfolding lines_of
lines_of-nothing = refl

-- the lines of a file with a schedule
file-lines : (above rest : List ℕ) → StandsAbove above → lines_of (above ++ (codes "schedule\n" ++ rest)) ≡ lines_of above ++ heading ∷ text_lines rest
file-lines above rest stands =
    elim stands.whole [
      | inl none ↦
          ap (λ text. lines_of (text ++ (codes "schedule\n" ++ rest))) none
          ∙ lines_of-text (codes "schedule\n" ++ rest)
          ∙ headed-lines rest
          ∙ ap (λ lines. lines ++ heading ∷ text_lines rest) (sym (ap lines_of none ∙ lines_of-nothing))
      | inr ends ↦
          ap (λ text. lines_of (text ++ (codes "schedule\n" ++ rest))) ends.1
          ∙ ap lines_of (append_assoc ends.0 (10 ∷ []) (codes "schedule\n" ++ rest))
          ∙ lines_of-append ends.0 (codes "schedule\n" ++ rest)
          ∙ ap (λ lines. lines_of (ends.0 ++ 10 ∷ []) ++ lines) (headed-lines rest)
          ∙ ap (λ text. lines_of text ++ heading ∷ text_lines rest) (sym ends.1)
    ]

-- ---- Parts

module _ (who : WhoIs) where
  -- the lines above the first line `schedule` are not looked at
  below-heading : (number : ℕ) (above rest : List (List ℕ)) (part : Part) → AllByRecursion (λ line. is_heading line ≡ false) above → below who number (above ++ heading ∷ rest) part ≡ part_of who ((number + length above) + 1) rest
  below-heading number [] rest part all =
      ap (λ n. part_of who n rest) (let e : number + 1 ≡ (number + 0) + 1 = omega arith in e)
  below-heading number (line ∷ above) rest part all =
      cond-false (is_heading line) _ _ all.0
      ∙ below-heading (number + 1) above rest part all.1
      ∙ ap (λ n. part_of who n rest) (let e : ((number + 1) + length above) + 1 ≡ (number + length (line ∷ above)) + 1 = omega arith in e)

  part-row : (number : ℕ) (event : Event) (line : List ℕ) (lines : List (List ℕ)) → IsRow who event line → part_of who number (line ∷ lines) ≡ record { events = (number, event) ∷ (part_of who (number + 1) lines).events; bad = (part_of who (number + 1) lines).bad }
  part-row number event line lines is =
      cond-false (length line == 0) _ _ is.some
      ∙ cond-false (is_end line) _ _ is.going
      ∙ ap (λ found. after_event number found (part_of who (number + 1) lines)) is.reads

  module _ (names : Names) (rest : List (List ℕ)) (ends : (number : ℕ) → part_of who number rest ≡ no_event) where
    -- the lines of events are read
    part-rows : (number : ℕ) (events : List Event) → AllByRecursion (λ event. IsRow who event (row names event)) events → part_of who number (map (row names) events ++ rest) ≡ all_read number events
    part-rows number [] rows = ends number
    part-rows number (event ∷ events) rows =
        part-row number event (row names event) (map (row names) events ++ rest) rows.0
        ∙ ap (λ (part : Part). record { events = (number, event) ∷ part.events; bad = part.bad }) (part-rows (number + 1) events rows.1)

  ends-below : (text : List ℕ) → StandsBelow text → (number : ℕ) → part_of who number (text_lines text) ≡ no_event
  ends-below text stands number =
      elim stands [
        | inl none ↦ ap (λ text. part_of who number (text_lines text)) none
        | inr more ↦ ap (λ text. part_of who number (text_lines text)) more.1 ∙ ap (part_of who number) (ended-lines more.0)
      ]

each-row : (names : Names) → CanBeTold names → (events : List Event) → AllByRecursion (IsNamed names) events → AllByRecursion IsInRange events → AllByRecursion (λ event. IsRow (who_is names) event (row names event)) events
each-row names told [] named small = tt
each-row names told (event ∷ events) named small =
    (row-reads names told event named.0 small.0, each-row names told events named.1 small.1)

pub reads-again : (names : Names) (events : List Event) (above under : List ℕ) → CanBeTold names → All (IsNamed names) events → All IsInRange events → StandsAbove above → StandsBelow under → ReadAgain names above events under
reads-again names events above under told named small stands ends =
    let who = who_is names in
    let rows = each-row names told events (recursion_from_All (IsNamed names) events named) (recursion_from_All IsInRange events small) in
    let text = schedule_text names events ++ under in
    let cut : lines_of (file_with names above events under) ≡ lines_of above ++ heading ∷ (map (row names) events ++ text_lines under) = file-lines above text stands ∙ ap (λ lines. lines_of above ++ heading ∷ lines) (schedule-lines names under events rows) in
    let lines = lines_of (file_with names above events under) in
    let number : (1 + length (lines_of above)) + 1 ≡ length (lines_of above) + 2 = omega arith in
    let part : part_in who lines ≡ all_read (length (lines_of above) + 2) events = ap (part_in who) cut ∙ below-heading who 1 (lines_of above) (map (row names) events ++ text_lines under) _ (recursion_from_All _ (lines_of above) stands.no_heading) ∙ part-rows who names (text_lines under) (ends-below who under ends) ((1 + length (lines_of above)) + 1) events rows ∙ ap (λ n. all_read n events) number in
    ap (λ found. reading_with found (length lines)) part
