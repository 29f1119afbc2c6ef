-- The keys of what is learned of a conversion.
use Rattle.std.proofs.Common.{◌≡◌, refl, sym, ap, ◌∙◌, subst, ℕ, ◌+◌, ◌-◌, ◌≤◌, true, List, [], ◌∷◌, ◌++◌, map, drop, take, Option, Some, length, arith}
use Rattle.std.specs.Prelude.{slice_range}
use Rattle.std.specs.List.{flat_map}
use Rattle.std.proofs.lemmas.Bool.{false≢true}
use Rattle.std.proofs.lemmas.List.{drop-drop, drop_all, take-append-drop}
use Rattle.mz_base.specs.declared.conversion.Segment.{Segment}
use Rattle.mz_base.specs.declared.lattice.Pair.{Pair}
use Rattle.conversion_meaning.specs.SegmentLaws.{AreTouching, part_of}
use Rattle.keys.specs.Bindings.{action_in}
use Rattle.keys.specs.declared.action.Action.{Action}
use Rattle.keys.specs.declared.action.Action.TheVariants as action
use Rattle.keys.specs.declared.command.Command.TheVariants as command
use Rattle.session_meaning.specs.Laws.{is_learned}
use Rattle.session_meaning.specs.Reached.{IsStage}
use Rattle.session_meaning.specs.ReachedLaws.{LearnedKeysAreReading}
use Rattle.session_meaning.specs.Stages.{Choice, Composition, V, chosen_pairs, mode_of, picks_from, reading}
use Rattle.session_meaning.specs.Steps.{learned, learned_by_action, need_of_action, need_of_selection, needs}
use Rattle.session_meaning.proofs.SoundLemmas.{parts-touch}

-- touching parts are never behind where they begin
touching-le : (from to : ℕ) (parts : List (ℕ × ℕ)) → AreTouching from to parts → from ≤ to
touching-le from to [] touching = omega (arith, touching)
touching-le from to (part ∷ parts) touching =
    let rest = touching-le part.1 to parts touching.2 in
    let begins = touching.0 in
    let forward = touching.1 in
    omega (arith, rest, begins, forward)

-- the texts of touching parts, joined, are the text from where they begin on
parts-joined : (key : List ℕ) (from : ℕ) (parts : List (ℕ × ℕ)) → AreTouching from (length key) parts → flat_map (λ (part : ℕ × ℕ). slice_range key part.0 part.1) parts ≡ drop from key
parts-joined key from [] touching = sym (drop_all from key (omega (arith, touching)))
parts-joined key from (part ∷ parts) touching =
    let begins = touching.0 in
    let forward = touching.1 in
    let whole : from + (part.1 - from) ≡ part.1 = omega (arith, begins, forward) in
    let rest = parts-joined key part.1 parts touching.2 in
    ap (λ (n : ℕ). take (part.1 - n) (drop n key) ++ flat_map (λ (other : ℕ × ℕ). slice_range key other.0 other.1) parts) begins
    ∙ (ap (λ text. take (part.1 - from) (drop from key) ++ text) rest
    ∙ (ap (λ n. take (part.1 - from) (drop from key) ++ drop n key) (sym whole)
    ∙ (ap (λ text. take (part.1 - from) (drop from key) ++ text) (sym (drop-drop (part.1 - from) from key))
    ∙ take-append-drop (part.1 - from) (drop from key))))

abbrev key_of : List ℕ → Segment × ℕ → List ℕ
key_of key pick = slice_range key pick.0.begin pick.0.end

-- whatever is chosen
keys-joined : (key : List ℕ) (segments : List Segment) (places : List ℕ) (pair_of : Segment × ℕ → Pair) → ((pick : Segment × ℕ) → (pair_of pick).key ≡ key_of key pick) → flat_map (λ (pair : Pair). pair.key) (map pair_of (picks_from segments places)) ≡ flat_map (λ (part : ℕ × ℕ). slice_range key part.0 part.1) (map part_of segments)
keys-joined key [] places pair_of same = refl
keys-joined key (segment ∷ segments) [] pair_of same =
    ap (λ text. text ++ flat_map (λ (pair : Pair). pair.key) (map pair_of (picks_from segments []))) (same (segment, 0))
    ∙ ap (λ text. slice_range key segment.begin segment.end ++ text) (keys-joined key segments [] pair_of same)
keys-joined key (segment ∷ segments) (place ∷ places) pair_of same =
    ap (λ text. text ++ flat_map (λ (pair : Pair). pair.key) (map pair_of (picks_from segments places))) (same (segment, place))
    ∙ ap (λ text. slice_range key segment.begin segment.end ++ text) (keys-joined key segments places pair_of same)

chosen_keys : (c : Composition) (v : Choice) → IsStage (V c v) → flat_map (λ (pair : Pair). pair.key) (chosen_pairs c v) ≡ reading c
chosen_keys c v is =
    keys-joined (reading c) v.conversion.segments v.chosen _ (λ pick. refl) ∙ parts-joined (reading c) 0 (map part_of v.conversion.segments) (parts-touch c v is)

by_action : (c : Composition) (v : Choice) (act : Option Action) → IsStage (V c v) → is_learned (need_of_action (V c v) act) ≡ true → flat_map (λ (pair : Pair). pair.key) (learned_by_action (V c v) act) ≡ reading c
by_action c v (Some action.Commit) is learns = chosen_keys c v is
by_action c v (Some (action.CommitThenInsert letter)) is learns = chosen_keys c v is
by_action c v _ is learns = absurd (false≢true learns)

pub learned-keys : LearnedKeysAreReading
unfolding needs learned
learned-keys s (command.Key key) c v sound is learns =
    let stage_is = subst IsStage is sound in
    let needed = subst (λ stage. is_learned (need_of_action stage (action_in (mode_of stage) key)) ≡ true) is learns in
    ap (λ stage. flat_map (λ (pair : Pair). pair.key) (learned_by_action stage (action_in (mode_of stage) key))) is ∙ by_action c v (action_in (mode_of (V c v)) key) stage_is needed
learned-keys s (command.Select number) c v sound is learns =
    let needed = subst (λ stage. is_learned (need_of_selection stage number) ≡ true) is learns in
    absurd (false≢true needed)
learned-keys s _ c v sound is learns = absurd (false≢true learns)
