-- The texts of each line are fields of a report.
use Rattle.std.proofs.Common.{refl, subst, inl, inr, ℕ, zero, suc, ◌+◌, ◌-◌, ◌*◌, ◌/◌, Bool, true, false, List, [], ◌∷◌, ◌++◌, map, take, drop, Option, Some, None, if◌then◌else◌, length, ◌==◌, arith}
use Rattle.std.specs.Prelude.{⊤, ◌&&◌, pos, neg_ℤ, IfSome, nat_le, nat_lt, slice_get}
use Rattle.std.specs.Fmt.{decimal}
use Rattle.std.specs.List.{All, fold}
use Rattle.mz_base.specs.Data.{is_text}
use Rattle.mz_base.specs.declared.conversion.Segment.{Segment}
use Rattle.mz_base.specs.declared.lattice.Candidate.{Candidate}
use Rattle.mz_base.specs.declared.lattice.Pair.{Pair}
use Rattle.mz_base.specs.declared.report.Word.{Word}
use Rattle.mz_base.specs.declared.report.Word.TheVariants as word
use Rattle.composer.specs.Composing.{Composing, backspaced, base_of, deleted, inserted, moved_end, moved_home, moved_left, moved_right}
use Rattle.composer.specs.declared.composer.TheConstants.{MOST_SHOWN}
use Rattle.conversion_meaning.specs.Segments.{resized}
use Rattle.conversion_meaning.proofs.CutLemmas.{from_all}
use Rattle.conversion_meaning.proofs.Lists.{All-from_among, Among, Among-append_cases, Among-map, from_map}
use Rattle.keys.specs.Bindings.{action_in}
use Rattle.keys.specs.declared.action.Action.{Action}
use Rattle.keys.specs.declared.action.Action.TheVariants as action
use Rattle.keys.specs.declared.command.Command.{Command}
use Rattle.keys.specs.declared.command.Command.TheVariants as command
use Rattle.keys.specs.declared.key.Key.{Key}
use Rattle.keys.specs.declared.key.Key.TheVariants as key
use Rattle.session_meaning.specs.Fields.{ArePinnedFields, IsCommandField, IsField, IsFieldCharacter, IsKeyField, IsLineField, IsRuleField, IsStepField}
use Rattle.session_meaning.specs.Lines.{choosing_rest, line_of, line_with, page, rest_of}
use Rattle.conversion_meaning.specs.declared.rules.TheConstants.{RULE_ORDER}
use Rattle.session_meaning.specs.Outcomes.{Outcome, Committed, Converted, Filled, Passed, Went, at_number, begun, can_convert, conversion_of, count_in_focus, empty, first_choice, parts_of, reconverted, suggestion_at, took_suggestion, with_chosen, with_text}
use Rattle.session_meaning.specs.Reached.{reached}
use Rattle.session_meaning.specs.ReachedLaws.{LearnedAreFields, LinesAreFields}
use Rattle.session_meaning.specs.Stages.{Choice, Composition, Pinned, Session, Stage, C, P, V, chosen_in_focus, chosen_pairs, chosen_text, chosen_values, cursor, mode_of, no_segment, opening, picks, picks_from, preedit, reading, rules_of, segment_in_focus, shown, suggested, value_at}
use Rattle.session_meaning.specs.declared.page.TheConstants.{PAGE_PLACES}
use Rattle.session_meaning.specs.Steps.{Stepped, after, compared, differs, learned, learned_by_action, learned_by_selection, met, of_suggestion, pressed, selected, settled, step}
use Rattle.session_meaning.proofs.FieldAnswers.{Plain-suggested, PlainSegments, PlainSegments-answer, PlainValues}
use Rattle.session_meaning.proofs.FieldTexts.{AreFields-from_plain, IsField-from_plain, Plain, Plain-decimal, Plain-flat_map, Plain-none, Plain-preedit, Plain-reading, PlainComposing, PlainComposing-backspaced, PlainComposing-deleted, PlainComposing-inserted, PlainComposing-moved_end, PlainComposing-moved_home, PlainComposing-moved_left, PlainComposing-moved_right, PlainRules, PlainTexts, from_drop, from_take, read-holds}

-- ---- Stages

record PlainComposition (c : Composition) : Type 0 where
  data_are : ArePinnedFields c.pinned
  text : PlainComposing c.text

abbrev PlainStage : Stage → Type 0
PlainStage P = ⊤
PlainStage (C c) = PlainComposition c
PlainStage (V c v) = PlainComposition c × PlainSegments v.conversion.segments

-- the stage, and the text of the last commit
record PlainSession (s : Session) : Type 0 where
  stage : PlainStage s.stage
  last : Plain s.last

rules-plain : (c : Composition) → PlainComposition c → PlainRules (rules_of c)
rules-plain c is rule h = from_all IsRuleField (rules_of c) is.data_are.lists.rules rule h

Plain-shown_preedit : (c : Composition) → PlainComposition c → Plain (preedit c)
Plain-shown_preedit c is = Plain-preedit (rules_of c) (rules-plain c is) c.text is.text

Plain-read : (c : Composition) → PlainComposition c → Plain (reading c)
Plain-read c is = Plain-reading (rules_of c) (rules-plain c is) c.text is.text

-- ---- Chosen values

Plain-value_at : (segment : Segment) (place : ℕ) → PlainValues segment.candidates → Plain (value_at segment place)
Plain-value_at segment place are =
    read-holds Plain (map (λ (candidate : Candidate). candidate.value) segment.candidates) place [] values Plain-none
  where
    values : PlainTexts (map (λ (candidate : Candidate). candidate.value) segment.candidates)
    values text h =
        let r = from_map (λ (candidate : Candidate). candidate.value) text segment.candidates h in
        subst Plain r.2 (are r.0 r.1)

PlainTexts-picked : (segments : List Segment) (places : List ℕ) → PlainSegments segments → PlainTexts (map (λ (pick : Segment × ℕ). value_at pick.0 pick.1) (picks_from segments places))
PlainTexts-picked [] places are text h = absurd h
PlainTexts-picked (segment ∷ segments) [] are text (inl same) =
    subst Plain same (Plain-value_at segment 0 (are segment (inl refl)))
PlainTexts-picked (segment ∷ segments) [] are text (inr h) =
    PlainTexts-picked segments [] (λ other k. are other (inr k)) text h
PlainTexts-picked (segment ∷ segments) (place ∷ places) are text (inl same) =
    subst Plain same (Plain-value_at segment place (are segment (inl refl)))
PlainTexts-picked (segment ∷ segments) (place ∷ places) are text (inr h) =
    PlainTexts-picked segments places (λ other k. are other (inr k)) text h

PlainTexts-chosen : (v : Choice) → PlainSegments v.conversion.segments → PlainTexts (chosen_values v)
PlainTexts-chosen v are = PlainTexts-picked v.conversion.segments v.chosen are

Plain-chosen_text : (v : Choice) → PlainSegments v.conversion.segments → Plain (chosen_text v)
Plain-chosen_text v are = Plain-flat_map (λ value. value) (chosen_values v) (PlainTexts-chosen v are)

PlainValues-focus : (v : Choice) → PlainSegments v.conversion.segments → PlainValues (segment_in_focus v).candidates
PlainValues-focus v are =
    read-holds (λ (segment : Segment). PlainValues segment.candidates) v.conversion.segments v.focus no_segment are (λ candidate h. absurd h)

PlainTexts-page : (list : List Candidate) (place : ℕ) → PlainValues list → PlainTexts (page list place)
PlainTexts-page list place are text h =
    let r = from_map (λ (candidate : Candidate). candidate.value) text (take PAGE_PLACES (drop (place / PAGE_PLACES * PAGE_PLACES) list)) h in
    let kept = from_drop (place / PAGE_PLACES * PAGE_PLACES) r.0 list (from_take PAGE_PLACES r.0 (drop (place / PAGE_PLACES * PAGE_PLACES) list) r.1) in
    subst Plain r.2 (are r.0 kept)

-- ---- What is shown

Plain-shown : (stage : Stage) → PlainStage stage → Plain (shown stage)
Plain-shown P is = Plain-none
Plain-shown (C c) is = Plain-shown_preedit c is
Plain-shown (V c v) is = Plain-chosen_text v is.1

PlainTexts-none : PlainTexts []
PlainTexts-none text h = absurd h

PlainTexts-cons : (text : List ℕ) (texts : List (List ℕ)) → Plain text → PlainTexts texts → PlainTexts (text ∷ texts)
PlainTexts-cons text texts one more other (inl same) = subst Plain same one
PlainTexts-cons text texts one more other (inr h) = more other h

PlainTexts-append : (xs ys : List (List ℕ)) → PlainTexts xs → PlainTexts ys → PlainTexts (xs ++ ys)
PlainTexts-append xs ys one other text h =
    elim (Among-append_cases text xs ys h) [ inl a ↦ one text a | inr b ↦ other text b ]

PlainTexts-suggested : (c : Composition) → PlainComposition c → PlainTexts (map (λ (pair : Pair). pair.value) (suggested c))
PlainTexts-suggested c is text h =
    let r = from_map (λ (pair : Pair). pair.value) text (suggested c) h in
    subst Plain r.2 (Plain-suggested c.pinned is.data_are (base_of (rules_of c) c.text) r.0 r.1)

-- a number before such texts
PlainTexts-numbered : (n : ℕ) (texts : List (List ℕ)) → PlainTexts texts → PlainTexts (decimal n ∷ texts)
PlainTexts-numbered n texts more = PlainTexts-cons (decimal n) texts (Plain-decimal n) more

PlainTexts-listed : (v : Choice) → PlainSegments v.conversion.segments → PlainTexts (decimal (chosen_in_focus v + 1) ∷ decimal (count_in_focus v) ∷ page (segment_in_focus v).candidates (chosen_in_focus v))
PlainTexts-listed v are =
    let shown_page = page (segment_in_focus v).candidates (chosen_in_focus v) in
    PlainTexts-numbered (chosen_in_focus v + 1) (decimal (count_in_focus v) ∷ shown_page) (PlainTexts-numbered (count_in_focus v) shown_page (PlainTexts-page (segment_in_focus v).candidates (chosen_in_focus v) (PlainValues-focus v are)))

PlainTexts-choosing : (v : Choice) → PlainSegments v.conversion.segments → PlainTexts (choosing_rest v)
PlainTexts-choosing v are =
    let listed = decimal (chosen_in_focus v + 1) ∷ decimal (count_in_focus v) ∷ page (segment_in_focus v).candidates (chosen_in_focus v) in
    let segments = length v.conversion.segments in
    let after_numbers = PlainTexts-append (chosen_values v) listed (PlainTexts-chosen v are) (PlainTexts-listed v are) in
    PlainTexts-numbered (v.focus + 1) (decimal segments ∷ (chosen_values v ++ listed)) (PlainTexts-numbered segments (chosen_values v ++ listed) after_numbers)

PlainTexts-rest : (stage : Stage) → PlainStage stage → PlainTexts (rest_of stage)
PlainTexts-rest P is = PlainTexts-none
PlainTexts-rest (C c) is =
    let values = map (λ (pair : Pair). pair.value) (suggested c) in
    PlainTexts-cons (preedit c) (decimal (cursor c) ∷ values) (Plain-shown_preedit c is) (PlainTexts-numbered (cursor c) values (PlainTexts-suggested c is))
PlainTexts-rest (V c v) is = PlainTexts-choosing v is.1

-- ---- Lines

record PlainStepped (stepped : Stepped) : Type 0 where
  session : PlainSession stepped.session
  line : IsLineField stepped.line

IsLineField-of : (which : Word) (stage : Stage) (result : List ℕ) → PlainStage stage → Plain result → IsLineField (line_of which stage result)
IsLineField-of which stage result is plain =
    record { result = IsField-from_plain result plain; rest = AreFields-from_plain (rest_of stage) (PlainTexts-rest stage is) }

IsLineField-with : (which : Word) (stage : Stage) (rest : List (List ℕ)) → PlainTexts rest → IsLineField (line_with which stage rest)
IsLineField-with which stage rest plain =
    record { result = IsField-from_plain [] Plain-none; rest = AreFields-from_plain rest plain }

-- ---- Of each outcome

abbrev PlainBy : Outcome → Type 0
PlainBy Passed = ⊤
PlainBy Filled = ⊤
PlainBy (Went stage) = PlainStage stage
PlainBy (Converted c v) = PlainStage (V c v)
PlainBy (Committed text stage) = Plain text × PlainStage stage

plain-settled : (stage : Stage) → PlainStage stage → PlainStage (settled stage)
plain-settled P is = tt
plain-settled (C c) is = by_test (length (preedit c) == 0)
  where
    by_test : (b : Bool) → PlainStage (if b then P else C c)
    by_test true = tt
    by_test false = is
plain-settled (V c v) is = is

PlainStepped-stayed : (s : Session) (which : Word) → PlainSession s → PlainStepped (record { session = record s { fresh = false }; line = line_of which s.stage [] })
PlainStepped-stayed s which is =
    record { session = record { stage = is.stage; last = is.last }; line = IsLineField-of which s.stage [] is.stage Plain-none }

plain-after : (s : Session) (o : Outcome) → PlainSession s → PlainBy o → PlainStepped (after s o)
plain-after s Passed is by = PlainStepped-stayed s word.Pass is
plain-after s Filled is by = PlainStepped-stayed s word.Full is
plain-after s (Went stage) is by =
    record { session = record { stage = plain-settled stage by; last = is.last }; line = IsLineField-of word.Done (settled stage) [] (plain-settled stage by) Plain-none }
plain-after s (Converted c v) is by =
    record { session = record { stage = by; last = is.last }; line = IsLineField-of word.Done (V c v) [] by Plain-none }
plain-after s (Committed text stage) is by =
    record { session = record { stage = plain-settled stage by.1; last = by.0 }; line = IsLineField-of word.Done (settled stage) text (plain-settled stage by.1) by.0 }

either : (b : Bool) (one other : Outcome) → PlainBy one → PlainBy other → PlainBy (if b then one else other)
either true one other here there = here
either false one other here there = there

-- ---- Of each action

PlainSegments-conversion : (c : Composition) (bounds : List ℕ) → PlainComposition c → PlainSegments (conversion_of c bounds).segments
PlainSegments-conversion c bounds is =
    PlainSegments-answer c.pinned RULE_ORDER (reading c) bounds is.data_are (Plain-read c is)

plain-begun : (taken : Option Pinned) (letter : ℕ) → IfSome taken ArePinnedFields → IsFieldCharacter letter → PlainStage (begun taken letter)
plain-begun None letter data_are typed = tt
plain-begun (Some pinned) letter data_are typed =
    record { data_are = data_are; text = PlainComposing-inserted empty letter (record { left = Plain-none; run = Plain-none; right = Plain-none }) typed }

plain-reconverted : (c : Composition) (v : Choice) (bounds : Option (List ℕ)) → PlainComposition c → PlainBy (reconverted c v bounds)
plain-reconverted c v None is = tt
plain-reconverted c v (Some bounds) is = (is, PlainSegments-conversion c bounds is)

plain-moved : (c : Composition) (text : Composing) → PlainComposition c → PlainComposing text → PlainStage (with_text c text)
plain-moved c text is plain = record { data_are = is.data_are; text = plain }

-- what an action types is a character of a field
abbrev TypesField : Option Action → Type 0
TypesField (Some (action.Insert letter)) = IsFieldCharacter letter
TypesField (Some (action.CommitThenInsert letter)) = IsFieldCharacter letter
TypesField _ = ⊤

plain-composed : (c : Composition) (act : Option Action) → PlainComposition c → TypesField act → PlainBy (pressed (C c) None act)
plain-composed c (Some (action.Insert letter)) is typed = either (nat_le MOST_SHOWN (length (preedit c))) Filled (Went (with_text c (inserted c.text letter))) tt (plain-moved c (inserted c.text letter) is (PlainComposing-inserted c.text letter is.text typed))
plain-composed c (Some action.Convert) is typed = either (can_convert c) (Converted c (first_choice (conversion_of c []))) Passed (is, PlainSegments-conversion c [] is) tt
plain-composed c (Some action.Commit) is typed = (Plain-read c is, tt)
plain-composed c (Some action.Backspace) is typed = plain-moved c (backspaced (rules_of c) c.text) is (PlainComposing-backspaced (rules_of c) (rules-plain c is) c.text is.text)
plain-composed c (Some action.Delete) is typed = plain-moved c (deleted (rules_of c) c.text) is (PlainComposing-deleted (rules_of c) (rules-plain c is) c.text is.text)
plain-composed c (Some action.Left) is typed = plain-moved c (moved_left (rules_of c) c.text) is (PlainComposing-moved_left (rules_of c) (rules-plain c is) c.text is.text)
plain-composed c (Some action.Right) is typed = plain-moved c (moved_right (rules_of c) c.text) is (PlainComposing-moved_right (rules_of c) (rules-plain c is) c.text is.text)
plain-composed c (Some action.Home) is typed = plain-moved c (moved_home (rules_of c) c.text) is (PlainComposing-moved_home (rules_of c) (rules-plain c is) c.text is.text)
plain-composed c (Some action.End) is typed = plain-moved c (moved_end (rules_of c) c.text) is (PlainComposing-moved_end (rules_of c) (rules-plain c is) c.text is.text)
plain-composed c _ is typed = tt

plain-pressed : (stage : Stage) (taken : Option Pinned) (act : Option Action) → PlainStage stage → IfSome taken ArePinnedFields → TypesField act → PlainBy (pressed stage taken act)
plain-pressed P taken (Some (action.Insert letter)) is data_are typed = plain-begun taken letter data_are typed
plain-pressed P taken _ is data_are typed = tt
plain-pressed (C c) taken act is data_are typed = plain-composed c act is typed
plain-pressed (V c v) taken (Some action.Commit) is data_are typed = (Plain-chosen_text v is.1, tt)
plain-pressed (V c v) taken (Some action.Cancel) is data_are typed = is.0
plain-pressed (V c v) taken (Some action.Left) is data_are typed = is
plain-pressed (V c v) taken (Some action.Right) is data_are typed = is
plain-pressed (V c v) taken (Some action.Home) is data_are typed = is
plain-pressed (V c v) taken (Some action.End) is data_are typed = is
plain-pressed (V c v) taken (Some action.Next) is data_are typed = is
plain-pressed (V c v) taken (Some action.Previous) is data_are typed = is
plain-pressed (V c v) taken (Some action.Widen) is data_are typed = plain-reconverted c v (resized (parts_of v) v.focus (pos 1) (length (reading c))) is.0
plain-pressed (V c v) taken (Some action.Narrow) is data_are typed = plain-reconverted c v (resized (parts_of v) v.focus (neg_ℤ (pos 1)) (length (reading c))) is.0
plain-pressed (V c v) taken (Some (action.CommitThenInsert letter)) is data_are typed = (Plain-chosen_text v is.1, plain-begun taken letter data_are typed)
plain-pressed (V c v) taken _ is data_are typed = tt

-- ---- Of each command

got-among : {X : Type 0} (xs : List X) (i : ℕ) → IfSome (slice_get xs i) (λ x. Among x xs)
got-among [] i = tt
got-among (x ∷ xs) zero = inl refl
got-among {X} (x ∷ xs) (suc i) = later (slice_get xs i) (got-among xs i)
  where
    later : (found : Option X) → IfSome found (λ y. Among y xs) → IfSome found (λ y. Among y (x ∷ xs))
    later None h = tt
    later (Some y) h = inr h

numbered-among : {X : Type 0} (xs : List X) (number : ℕ) → IfSome (at_number xs number) (λ x. Among x xs)
numbered-among {X} xs number = by_test (number == 0)
  where
    by_test : (b : Bool) → IfSome (if b then None else slice_get xs (number - 1)) (λ x. Among x xs)
    by_test true = tt
    by_test false = got-among xs (number - 1)

plain-suggestion : (found : Option Pair) (c : Composition) → PlainComposition c → IfSome found (λ pair. Among pair (suggested c)) → PlainBy (took_suggestion found)
plain-suggestion None c is h = tt
plain-suggestion (Some pair) c is h =
    (Plain-suggested c.pinned is.data_are (base_of (rules_of c) c.text) pair h, tt)

plain-selected : (stage : Stage) (number : ℕ) → PlainStage stage → PlainBy (selected stage number)
plain-selected P number is = tt
plain-selected (C c) number is =
    plain-suggestion (suggestion_at c number) c is (numbered-among (suggested c) number)
plain-selected (V c v) number is =
    either (nat_lt 0 number && nat_le number (count_in_focus v)) (Went (V c (with_chosen v (number - 1)))) Passed is tt

plain-compared : (s : Session) (wanted found : List ℕ) → PlainSession s → Plain found → PlainStepped (compared s wanted found)
plain-compared s wanted found is plain = by_test (is_text wanted found)
  where
    by_test : (b : Bool) → PlainStepped (if b then met s else differs s found)
    by_test true =
        record { session = record { stage = is.stage; last = is.last }; line = IsLineField-with word.Met s.stage [] PlainTexts-none }
    by_test false =
        record { session = record { stage = is.stage; last = is.last }; line = IsLineField-with word.Differs s.stage (found ∷ []) (PlainTexts-cons found [] plain PlainTexts-none) }

types-key : (stage : Stage) (k : Key) → IsKeyField k → TypesField (action_in (mode_of stage) k)
types-key P (key.Char c) is = is
types-key P _ is = tt
types-key (C c) (key.Char letter) is = is
types-key (C c) _ is = tt
types-key (V c v) (key.Char letter) is = is
types-key (V c v) _ is = tt

plain-step : (s : Session) (c : Command) (taken : Option Pinned) → PlainSession s → IsCommandField c → IfSome taken ArePinnedFields → PlainStepped (step s c taken)
unfolding step
plain-step s (command.Key k) taken is typed data_are =
    plain-after s (pressed s.stage taken (action_in (mode_of s.stage) k)) is (plain-pressed s.stage taken (action_in (mode_of s.stage) k) is.stage data_are (types-key s.stage k typed))
plain-step s (command.Select number) taken is typed data_are =
    plain-after s (selected s.stage number) is (plain-selected s.stage number is.stage)
plain-step s command.Reset taken is typed data_are = plain-after s (Went P) is tt
plain-step s (command.Await number) taken is typed data_are = plain-after s Passed is tt
plain-step s (command.ExpectPreedit text) taken is typed data_are =
    plain-compared s text (shown s.stage) is (Plain-shown s.stage is.stage)
plain-step s (command.ExpectResult text) taken is typed data_are = plain-compared s text s.last is is.last

-- ---- Of each run

plain-run : (commands : List (Command × Option Pinned)) (s : Session) → PlainSession s → All IsStepField commands → PlainSession (fold (λ session (command : Command × Option Pinned). (step session command.0 command.1).session) s commands)
plain-run [] s is are = is
plain-run (first ∷ commands) s is are =
    let one = are 0 first (omega arith) in
    plain-run commands (step s first.0 first.1).session (plain-step s first.0 first.1 is one.typed one.taken).session (λ k d inside. are (suc k) d (omega (arith, inside)))

pub lines-are_fields : LinesAreFields
lines-are_fields commands command are is =
    (plain-step (reached commands) command.0 command.1 (plain-run commands opening (record { stage = tt; last = Plain-none }) are) is.typed is.taken).line

-- ---- What is learned

abbrev PlainPairs : List Pair → Type 0
PlainPairs pairs = (pair : Pair) → Among pair pairs → Plain pair.value

plain-chosen_pairs : (c : Composition) (v : Choice) → PlainSegments v.conversion.segments → PlainPairs (chosen_pairs c v)
plain-chosen_pairs c v are pair h =
    let r = from_map _ pair (picks v) h in
    subst (λ (x : Pair). Plain x.value) r.2 (PlainTexts-chosen v are (value_at r.0.0 r.0.1) (Among-map (λ (pick : Segment × ℕ). value_at pick.0 pick.1) r.0 (picks v) r.1))

plain-of_suggestion : (found : Option Pair) (c : Composition) → PlainComposition c → IfSome found (λ pair. Among pair (suggested c)) → PlainPairs (of_suggestion found)
plain-of_suggestion None c is h pair k = absurd k
plain-of_suggestion (Some found) c is h pair (inl same) =
    subst (λ (x : Pair). Plain x.value) same (Plain-suggested c.pinned is.data_are (base_of (rules_of c) c.text) found h)
plain-of_suggestion (Some found) c is h pair (inr k) = absurd k

plain-learned_by_action : (stage : Stage) (act : Option Action) → PlainStage stage → PlainPairs (learned_by_action stage act)
plain-learned_by_action P _ is pair h = absurd h
plain-learned_by_action (C c) _ is pair h = absurd h
plain-learned_by_action (V c v) (Some action.Commit) is pair h = plain-chosen_pairs c v is.1 pair h
plain-learned_by_action (V c v) (Some (action.CommitThenInsert letter)) is pair h =
    plain-chosen_pairs c v is.1 pair h
plain-learned_by_action (V c v) _ is pair h = absurd h

plain-learned_by_selection : (stage : Stage) (number : ℕ) → PlainStage stage → PlainPairs (learned_by_selection stage number)
plain-learned_by_selection P number is pair h = absurd h
plain-learned_by_selection (C c) number is pair h =
    plain-of_suggestion (suggestion_at c number) c is (numbered-among (suggested c) number) pair h
plain-learned_by_selection (V c v) number is pair h = absurd h

plain-learned : (s : Session) (c : Command) → PlainSession s → PlainPairs (learned s c)
unfolding learned
plain-learned s (command.Key k) is = plain-learned_by_action s.stage (action_in (mode_of s.stage) k) is.stage
plain-learned s (command.Select number) is = plain-learned_by_selection s.stage number is.stage
plain-learned s _ is = λ pair h. absurd h

pub learned-are_fields : LearnedAreFields
learned-are_fields commands command are =
    All-from_among (λ (pair : Pair). IsField pair.value) (learned (reached commands) command) (λ pair h. IsField-from_plain pair.value (plain-learned (reached commands) command (plain-run commands opening (record { stage = tt; last = Plain-none }) are) pair h))
