-- Choices stay inside their lists, and the bounds of a resize are bounds.
use Rattle.std.proofs.Common.{◌≡◌, refl, sym, ap, ◌∙◌, subst, inl, inr, ◌⊎◌, ℕ, zero, suc, ◌+◌, ◌-◌, ◌%◌, ◌<◌, ◌≤◌, Bool, true, false, List, [], ◌∷◌, ◌++◌, cond, map, take, length, get_or, min, arith}
use Rattle.std.specs.Prelude.{◌≢◌, ◌&&◌, ℤ, pos, negsuc, int_lt, int_le, nat_lt, slice_set, unsigned_abs}
use Rattle.std.specs.List.{All, position_or_len}
use Rattle.std.specs.List.Sorted.{IsStrictlyIncreasing}
use Rattle.std.proofs.lemmas.Bool.{false≢true}
use Rattle.std.proofs.lemmas.Bool.Decides.{nat_tests}
use Rattle.std.proofs.lemmas.List.{get_or-set_other, get_or-set_same, length-map, length-set, length-take}
use Rattle.mz_base.specs.Data.{is_text}
use Rattle.mz_base.specs.declared.conversion.Conversion.{Conversion}
use Rattle.mz_base.specs.declared.conversion.Segment.{Segment}
use Rattle.mz_base.specs.declared.lattice.Candidate.{Candidate}
use Rattle.conversion_meaning.specs.Lattices.{AreBounds}
use Rattle.conversion_meaning.specs.SegmentLaws.{AreTouching, part_of}
use Rattle.conversion_meaning.specs.Segments.{can_widen, no_part, parts_from, wider_end}
use Rattle.conversion_meaning.proofs.CutLemmas.{Ascends, Ascends-le}
use Rattle.session_meaning.specs.Outcomes.{count_in_focus, first_choice, kept_places, place_of, rechosen, values_before, with_chosen, with_focus}
use Rattle.session_meaning.specs.Reached.{IsChosen, chosen_at, segment_at}
use Rattle.session_meaning.specs.Stages.{Choice, no_segment}

-- ---- The first choice

abbrev pub HaveValues : List Segment → Type 0
HaveValues segments = All (λ (segment : Segment). 0 < length segment.candidates) segments

abbrev first_place : Segment → ℕ
first_place segment = 0

zero-at : (segments : List Segment) (i : ℕ) → get_or (map first_place segments) i 0 ≡ 0
zero-at [] i = refl
zero-at (segment ∷ segments) zero = refl
zero-at (segment ∷ segments) (suc i) = zero-at segments i

pub IsChosen-first : (conversion : Conversion) → 0 < length conversion.segments → HaveValues conversion.segments → IsChosen (first_choice conversion)
IsChosen-first conversion some valued =
    record { focus = some; count = length-map conversion.segments first_place; inside = λ i inside. subst (λ place. place < length (get_or conversion.segments i no_segment).candidates) (sym (zero-at conversion.segments i)) (valued i no_segment inside) }

-- ---- Another candidate, another focus

same_or_not : (i j : ℕ) → (i ≡ j) ⊎ (i ≢ j)
same_or_not i j = grind arith

pub IsChosen-with : (v : Choice) (place : ℕ) → IsChosen v → place < count_in_focus v → IsChosen (with_chosen v place)
IsChosen-with v place is below =
    record { focus = is.focus; count = length-set v.chosen v.focus place ∙ is.count; inside = λ i inside. by_place i inside (same_or_not i v.focus) }
  where
    by_place : (i : ℕ) → i < length v.conversion.segments → (i ≡ v.focus) ⊎ (i ≢ v.focus) → chosen_at (with_chosen v place) i < length (segment_at v i).candidates
    by_place i inside (inl same) =
        let focus = is.focus in
        let count = is.count in
        let there : v.focus < length v.chosen = omega (arith, focus, count) in
        let at : get_or (slice_set v.chosen v.focus place) v.focus 0 ≡ place = get_or-set_same v.chosen v.focus place 0 there in
        let here : get_or (slice_set v.chosen v.focus place) v.focus 0 < length (segment_at v v.focus).candidates = subst (λ n. n < length (segment_at v v.focus).candidates) (sym at) below in
        subst (λ n. get_or (slice_set v.chosen v.focus place) n 0 < length (segment_at v n).candidates) (sym same) here
    by_place i inside (inr other) =
        subst (λ n. n < length (segment_at v i).candidates) (sym (get_or-set_other v.chosen v.focus i place 0 other)) (is.inside i inside)

pub count-some : (v : Choice) → IsChosen v → 0 < count_in_focus v
count-some v is =
    let below = is.inside v.focus is.focus in omega (arith, below)

below-mod : (n m : ℕ) → 0 < m → n % m < m
below-mod n m some = omega arith

pub IsChosen-turned : (v : Choice) (n : ℕ) → IsChosen v → IsChosen (with_chosen v (n % count_in_focus v))
IsChosen-turned v n is =
    IsChosen-with v (n % count_in_focus v) is (below-mod n (count_in_focus v) (count-some v is))

below-min : (place count other : ℕ) → other < count → min place (count - 1) < count
below-min place count other below = omega arith

pub IsChosen-focus : (v : Choice) (place : ℕ) → IsChosen v → IsChosen (with_focus v place)
IsChosen-focus v place is =
    record { focus = below-min place (length v.conversion.segments) v.focus is.focus; count = is.count; inside = is.inside }

-- ---- The places that are kept

by_bound : (place count : ℕ) (b : Bool) → nat_lt place count ≡ b → 0 < count → cond b place 0 < count
by_bound place count true is some = grind (arith, nat_tests)
by_bound place count false is some = some

place_of-inside : (segment : Segment) (value : List ℕ) → 0 < length segment.candidates → place_of segment value < length segment.candidates
place_of-inside segment value some =
    subst (λ n. place_of segment value < n) same (by_bound place (length values) (nat_lt place (length values)) refl (subst (λ n. 0 < n) (sym same) some))
  where
    values : List (List ℕ)
    values = map (λ (candidate : Candidate). candidate.value) segment.candidates

    place : ℕ
    place = position_or_len (is_text value) values

    same : length values ≡ length segment.candidates
    same = length-map segment.candidates (λ (candidate : Candidate). candidate.value)

kept-count : (segments : List Segment) (values : List (List ℕ)) → length (kept_places segments values) ≡ length segments
kept-count [] values = refl
kept-count (segment ∷ segments) [] = ap suc (kept-count segments [])
kept-count (segment ∷ segments) (value ∷ values) = ap suc (kept-count segments values)

kept-inside : (segments : List Segment) (values : List (List ℕ)) → HaveValues segments → (i : ℕ) → i < length segments → get_or (kept_places segments values) i 0 < length (get_or segments i no_segment).candidates
kept-inside [] values valued i inside = absurd (omega arith)
kept-inside (segment ∷ segments) [] valued zero inside = valued 0 no_segment inside
kept-inside (segment ∷ segments) [] valued (suc i) inside =
    kept-inside segments [] (λ k d h. valued (suc k) d (omega (arith, h))) i (omega (arith, inside))
kept-inside (segment ∷ segments) (value ∷ values) valued zero inside =
    place_of-inside segment value (valued 0 no_segment inside)
kept-inside (segment ∷ segments) (value ∷ values) valued (suc i) inside =
    kept-inside segments values (λ k d h. valued (suc k) d (omega (arith, h))) i (omega (arith, inside))

pub IsChosen-rechosen : (v : Choice) (conversion : Conversion) → v.focus < length conversion.segments → HaveValues conversion.segments → IsChosen (rechosen v conversion)
IsChosen-rechosen v conversion below valued =
    record { focus = below; count = kept-count conversion.segments (values_before v); inside = kept-inside conversion.segments (values_before v) valued }

-- ---- The bounds of a resize

rising-ascends : (from to : ℕ) (xs : List ℕ) → Ascends from to xs → IsStrictlyIncreasing xs
rising-ascends from to [] h k inside = absurd (omega arith)
rising-ascends from to (x ∷ []) h k inside = absurd (omega arith)
rising-ascends from to (x ∷ (y ∷ ys)) h zero inside = h.1.0
rising-ascends from to (x ∷ (y ∷ ys)) h (suc k) inside =
    let next : suc (k + 1) ≡ suc k + 1 = omega arith in
    subst (λ n. get_or (y ∷ ys) k 0 < get_or (x ∷ (y ∷ ys)) n 0) next (rising-ascends x to (y ∷ ys) h.1 k (omega (arith, inside)))

between-ascends : (from to : ℕ) (xs : List ℕ) → Ascends from to xs → (k d : ℕ) → k < length xs → (from < get_or xs k d) × (get_or xs k d ≤ to)
between-ascends from to [] h k d inside = absurd (omega arith)
between-ascends from to (x ∷ xs) h zero d inside = (h.0, Ascends-le x to xs h.1)
between-ascends from to (x ∷ xs) h (suc k) d inside =
    let rest = between-ascends x to xs h.1 k d (omega (arith, inside)) in
    let first = h.0 in
    let low = rest.0 in
    (omega (arith, first, low), rest.1)

-- the ends of the parts before a place, and then an end past the begin of the part there
ends-ascend : (from to : ℕ) (parts : List (ℕ × ℕ)) (i end : ℕ) → AreTouching from to parts → i < length parts → (get_or parts i no_part).0 < end → Ascends from end (map (λ (part : ℕ × ℕ). part.1) (take i parts) ++ end ∷ [])
ends-ascend from to [] i end touching inside past = absurd (omega arith)
ends-ascend from to (part ∷ parts) zero end touching inside past =
    (subst (λ n. n < end) touching.0 past, refl)
ends-ascend from to (part ∷ parts) (suc i) end touching inside past =
    (subst (λ n. n < part.1) touching.0 touching.1, ends-ascend part.1 to parts i end touching.2 (omega (arith, inside)) past)

-- a position past one and up to another
between : (z : ℤ) (low high : ℕ) → (int_lt (pos low) z && int_le z (pos high)) ≡ true → (low < unsigned_abs z) × (unsigned_abs z ≤ high)
between (pos n) low high is = (grind (arith, nat_tests), grind (arith, nat_tests))
between (negsuc n) low high is = absurd (false≢true is)

pub AreBounds-resized : (key : List ℕ) (parts : List (ℕ × ℕ)) (i : ℕ) (by : ℤ) → AreTouching 0 (length key) parts → i < length parts → can_widen parts i by (length key) ≡ true → AreBounds key (map (λ (part : ℕ × ℕ). part.1) (take i parts) ++ unsigned_abs (wider_end parts i by) ∷ [])
AreBounds-resized key parts i by touching inside can =
    record { rising = rising-ascends 0 end ends ascends; inside = λ k d h. (let r = between-ascends 0 end ends ascends k d h in let low = r.0 in let high = r.1 in (low, omega (arith, high, last))) }
  where
    end : ℕ
    end = unsigned_abs (wider_end parts i by)

    ends : List ℕ
    ends = map (λ (part : ℕ × ℕ). part.1) (take i parts) ++ end ∷ []

    past : (get_or parts i no_part).0 < end
    past = (between (wider_end parts i by) (get_or parts i no_part).0 (length key) can).0

    last : end ≤ length key
    last = (between (wider_end parts i by) (get_or parts i no_part).0 (length key) can).1

    ascends : Ascends 0 end ends
    ascends = ends-ascend 0 (length key) parts i end touching inside past

-- as many bounds as there are segments up to the one that is resized
length-parts_from : (from : ℕ) (bounds : List ℕ) → length (parts_from from bounds) ≡ length bounds
length-parts_from from [] = refl
length-parts_from from (b ∷ bounds) = ap suc (length-parts_from b bounds)

pub few-bounds : (segments : List Segment) (bounds : List ℕ) → take (length bounds) (map part_of segments) ≡ parts_from 0 bounds → length bounds ≤ length segments
few-bounds segments bounds keeps =
    let front = ap length keeps in
    let taken = length-take (length bounds) (map part_of segments) in
    let mapped = length-map segments part_of in
    let parts = length-parts_from 0 bounds in
    omega (arith, front, taken, mapped, parts)
