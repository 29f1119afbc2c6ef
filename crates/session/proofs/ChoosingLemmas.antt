-- Of a composition that is converted: the first choice, and the choice in a conversion within other bounds.
use Rattle.std.proofs.Common.{◌≡◌, refl, sym, subst, ap, ◌∙◌, ℕ, ◌+◌, ◌<◌, Bool, true, false, List, [], ◌∷◌, ◌++◌, map, take, Option, Some, None, Vec, Global, if◌then◌else◌, length, arith}
use Rattle.std.specs.Prelude.{ℤ, IfSome, unsigned_abs}
use Rattle.std.specs.Option.{option_map}
use Rattle.std.proofs.lemmas.List.{length-map}
use Rattle.mz_base.specs.Data.{DataLists}
use Rattle.mz_base.specs.declared.conversion.Conversion.{Conversion}
use Rattle.mz_base.specs.declared.conversion.Segment.{Segment}
use Rattle.mz_base.specs.declared.user.UserRow.{UserRow}
use Rattle.conversion_meaning.specs.Answers.{answer}
use Rattle.conversion_meaning.specs.declared.rules.TheConstants.{RULE_ORDER}
use Rattle.mz_base.specs.declared.lattice.Pair.{Pair}
use Rattle.conversion_meaning.specs.Lattices.{AreBounds, IsKey}
use Rattle.conversion_meaning.specs.SegmentLaws.{AreTouching, part_of}
use Rattle.conversion_meaning.specs.Segments.{can_widen, resized, wider_end}
use Rattle.session_meaning.specs.Outcomes.{conversion_of, first_choice, kept_places, parts_of, rechosen, values_before}
use Rattle.session_meaning.specs.Reached.{IsPinnedSound}
use Rattle.session_meaning.specs.Stages.{Choice, Composition, reading}
use Rattle.session_meaning.proofs.ChoiceLemmas.{AreBounds-resized, IsChosen-first, IsChosen-rechosen}
use Rattle.session_meaning.proofs.SoundLemmas.{AreBounds-none, IsConverted-within, conversion-keeps, conversion-some, conversion-touches, conversion-valued, ends-past_focus}
use Rattle.session.specs.Kept.{Chosen, IsKept}

-- a conversion by these data
pub conversion-is : (lists : DataLists) (rows : List UserRow) (history : List Pair) (c : Composition) (key bounds : List ℕ) → lists ≡ c.pinned.lists → rows ≡ c.pinned.rows → history ≡ c.pinned.history → key ≡ reading c → answer lists rows history RULE_ORDER key bounds ≡ conversion_of c bounds
conversion-is lists rows history c key bounds same same_rows same_history same_key =
    ap (λ d. answer d rows history RULE_ORDER key bounds) same ∙ (ap (λ us. answer c.pinned.lists us history RULE_ORDER key bounds) same_rows ∙ (ap (λ h. answer c.pinned.lists c.pinned.rows h RULE_ORDER key bounds) same_history ∙ ap (λ k. answer c.pinned.lists c.pinned.rows c.pinned.history RULE_ORDER k bounds) same_key))

-- the first choice
first-kept : (c : Composition) (key : List ℕ) → IsPinnedSound c.pinned → key ≡ reading c → IsKey key → IsKept c key (first_choice (conversion_of c []))
first-kept c key sound same is =
    let there : IsKey (reading c) = subst IsKey same is in
    let none = AreBounds-none (reading c) in
    record {
      sound = sound;
      key_is = same;
      converted = IsConverted-within c sound there [] none;
      chosen = IsChosen-first (conversion_of c []) (conversion-some c sound there [] none) (conversion-valued c sound there [] none);
    }

pub IsKept-first : (c : Composition) (key : List ℕ) (conversion : Conversion) (chosen : List ℕ) → IsPinnedSound c.pinned → key ≡ reading c → IsKey key → conversion ≡ conversion_of c [] → chosen ≡ map (λ (segment : Segment). 0) conversion.segments → IsKept c key (record { conversion = conversion; focus = 0; chosen = chosen })
IsKept-first c key conversion chosen sound same is made firsts =
    let kept = first-kept c key sound same is in
    let all : first_choice (conversion_of c []) ≡ record { conversion = conversion; focus = 0; chosen = chosen } = ap first_choice (sym made) ∙ ap (λ places. record { conversion = conversion; focus = 0; chosen = places }) (sym firsts) in
    subst (IsKept c key) all kept

-- the same focus in a conversion within bounds that go up to it
within-kept : (c : Composition) (key : List ℕ) (v : Choice) (bounds : List ℕ) → IsKept c key v → AreBounds (reading c) bounds → v.focus < length bounds → IsKept c key (rechosen v (conversion_of c bounds))
within-kept c key v bounds is are few =
    let there = is.converted.key in
    let keeps = conversion-keeps c is.sound there bounds are in
    record {
      sound = is.sound;
      key_is = is.key_is;
      converted = IsConverted-within c is.sound there bounds are;
      chosen = IsChosen-rechosen v (conversion_of c bounds) (omega (arith, few, keeps)) (conversion-valued c is.sound there bounds are);
    }

pub IsKept-within : (c : Composition) (key : List ℕ) (v : Choice) (bounds : List ℕ) (conversion : Conversion) (chosen : List ℕ) → IsKept c key v → AreBounds (reading c) bounds → v.focus < length bounds → conversion ≡ conversion_of c bounds → chosen ≡ kept_places conversion.segments (values_before v) → IsKept c key (record { conversion = conversion; focus = v.focus; chosen = chosen })
IsKept-within c key v bounds conversion chosen is are few made kept_are =
    let kept = within-kept c key v bounds is are few in
    let all : rechosen v (conversion_of c bounds) ≡ record { conversion = conversion; focus = v.focus; chosen = chosen } = ap (rechosen v) (sym made) ∙ ap (λ places. record { conversion = conversion; focus = v.focus; chosen = places }) (sym kept_are) in
    subst (IsKept c key) all kept

module _ (c : Composition) (key : List ℕ) (v : Choice) (is : IsKept c key v) (by : ℤ) where
  ends : List ℕ
  ends = map (λ (part : ℕ × ℕ). part.1) (take v.focus (parts_of v)) ++ unsigned_abs (wider_end (parts_of v) v.focus by) ∷ []

  inside : v.focus < length (parts_of v)
  inside =
      let focus = is.chosen.focus in
      let mapped = length-map v.conversion.segments part_of in
      omega (arith, focus, mapped)

  touching : AreTouching 0 (length (reading c)) (parts_of v)
  touching =
      let r = is.converted.within in
      subst (λ (conversion : Conversion). AreTouching 0 (length (reading c)) (map part_of conversion.segments)) (sym r.2) (conversion-touches c is.sound is.converted.key r.0 r.1)

  -- the bounds of a resize are bounds, and go up to the focus
  pub resized-bounds : (bounds : List ℕ) → resized (parts_of v) v.focus by (length (reading c)) ≡ Some bounds → AreBounds (reading c) bounds × (v.focus < length bounds)
  unfolding resized ends
  resized-bounds bounds made = by_test (can_widen (parts_of v) v.focus by (length (reading c))) refl made
    where
      by_test : (b : Bool) → can_widen (parts_of v) v.focus by (length (reading c)) ≡ b → (if b then Some ends else None) ≡ Some bounds → AreBounds (reading c) bounds × (v.focus < length bounds)
      by_test false can none = absurd (let no : None ≡ Some bounds = none in cc)
      by_test true can some =
          let same : ends ≡ bounds = cc in
          let are = AreBounds-resized (reading c) (parts_of v) v.focus by touching inside can in
          let long = ends-past_focus (parts_of v) v.focus (unsigned_abs (wider_end (parts_of v) v.focus by)) inside in
          (subst (AreBounds (reading c)) same are, subst (λ xs. v.focus < length xs) same (omega (arith, long)))

-- bounds with which a composition is wider are bounds, and go up to the focus
module _ (x : Chosen) (key : List ℕ) (by : ℤ) (is : IsKept x.composition key x.choice) where
  abbrev pub Widens : Option (Vec ℕ Global) → Type 0
  Widens bounds =
      option_map (λ (made : Vec ℕ Global). made.items) bounds ≡ resized (parts_of x.choice) x.choice.focus by (length (reading x.composition))

  pub wider-are : (bounds : Option (Vec ℕ Global)) → Widens bounds → IfSome bounds (λ (made : Vec ℕ Global). AreBounds (reading x.composition) made.items)
  wider-are None same = tt
  wider-are (Some made) same = (resized-bounds x.composition key x.choice is by made.items (sym same)).0

  pub wider-few : (bounds : Option (Vec ℕ Global)) → Widens bounds → IfSome bounds (λ (made : Vec ℕ Global). x.choice.focus < length made.items)
  wider-few None same = tt
  wider-few (Some made) same = (resized-bounds x.composition key x.choice is by made.items (sym same)).1

-- another conversion, with what is kept beside it
pub IsKept-anew : (x : Chosen) (old bounds : List ℕ) → IsKept x.composition old x.choice → AreBounds (reading x.composition) bounds → x.choice.focus < length bounds → (composition : Composition) (key chosen : List ℕ) (focus : ℕ) (conversion : Conversion) → composition ≡ x.composition → key ≡ reading x.composition → focus ≡ x.choice.focus → conversion ≡ conversion_of x.composition bounds → chosen ≡ kept_places conversion.segments (values_before x.choice) → IsKept composition key (record { conversion = conversion; focus = focus; chosen = chosen })
IsKept-anew x old bounds is are few composition key chosen focus conversion same_composition key_is same_focus made kept_are =
    let kept = IsKept-within x.composition old x.choice bounds conversion chosen is are few made kept_are in
    let anew : IsKept x.composition key (record { conversion = conversion; focus = x.choice.focus; chosen = chosen }) = record { sound = kept.sound; key_is = key_is; converted = kept.converted; chosen = kept.chosen } in
    let focused = subst (λ n. IsKept x.composition key (record { conversion = conversion; focus = n; chosen = chosen })) (sym same_focus) anew in
    subst (λ c. IsKept c key (record { conversion = conversion; focus = focus; chosen = chosen })) (sym same_composition) focused
