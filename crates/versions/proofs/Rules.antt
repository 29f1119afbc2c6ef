-- Each kind of step keeps the rule of a registry. `known` is the prefix that a shown value stands for.
use Rattle.std.proofs.Common.{◌≡◌, ℕ, ◌≢◌, List, [], ◌∷◌, ◌++◌, fold, set, Option, Some, None, refl, sym, ap, ◌∙◌, subst, ⊎_elim}
use mathlib.Core.Option.{some}
use lib.ListN.{get_elem?}
use Rattle.crossbeam_utils.specs.Register.{Admits, TurnsAt, Forks, Merges}
use Rattle.atomic_table.proofs.Lists.{at_set, at_snoc}
use Rattle.versions.specs.Histories.{Prefix, Begins}
use Rattle.versions.specs.Seats.{Agrees, AllAgree}
use Rattle.versions.proofs.Histories.{Begins-self, Begins-trans}

module _ {T E : Type 0} where
  -- what a seat knows begins all that shows no less
  pub agrees_more : (view : Option (Prefix T E)) (p q : Prefix T E) → Begins p q → Agrees view p → Agrees view q
  agrees_more None p q more h = tt
  agrees_more (Some known) p q more h = Begins-trans known p q h more

  -- one view may become another that agrees
  agree_set : (shown : Prefix T E) (views : List (Option (Prefix T E))) (seat : ℕ) (view : Option (Prefix T E)) → AllAgree shown views → Agrees view shown → AllAgree shown (set views seat view)
  agree_set shown views seat view h agrees at u e =
      ⊎_elim (λ (t : (at ≡ seat) × (view ≡ u)). subst (λ w. Agrees w shown) t.1 agrees) (λ (t : (at ≢ seat) × (get_elem? views at ≡ some u)). h at u t.1) (at_set views seat at view u e)

module _ {T E X : Type 0} (known : X → Prefix T E) where
  abbrev Rule : X → List (Option (Prefix T E)) → Type 0
  Rule x views = AllAgree (known x) views

  abbrev SeesIt : Option (Prefix T E) → X → X → Option (Prefix T E) → Type 0
  SeesIt before x y after = Agrees before (known x) × (after ≡ Some (known y))

  -- make: a new seat knows nothing
  pub admits : Admits Rule None
  admits x views h seat view at =
      ⊎_elim (h seat view) (λ (e : None ≡ view). subst (λ w. Agrees w (known x)) e tt) (at_snoc views None view seat at)

  -- enter and publish: a step that shows no less
  pub shows_no_less : (seat : ℕ) (view : Option (Prefix T E)) (x y : X) → Begins (known x) (known y) → TurnsAt Rule seat view x y SeesIt
  shows_no_less seat view x y more views h at = (
    Some (known y),
    agree_set (known y) views seat (Some (known y)) (λ j u e. agrees_more u (known x) (known y) more (h j u e)) (Begins-self (known y)),
    (h seat view at, refl),
  )

  -- tell: a note knows what the publisher's seat knows
  pub forks : (seat : ℕ) (view : Option (Prefix T E)) → Forks Rule seat view view view
  forks seat view x views h at j u e =
      ⊎_elim (agree_set (known x) views seat view h (h seat view at) j u) (λ (same : view ≡ u). subst (λ w. Agrees w (known x)) same (h seat view at)) (at_snoc (set views seat view) view u j e)

  -- learn: a reader's seat knows what the note knew, which is spent
  pub merges : (seat : ℕ) (view : Option (Prefix T E)) (other : ℕ) (told : Option (Prefix T E)) → Merges Rule seat view other told told None
  merges seat view other told x views h at apart there =
      let fits : Agrees told (known x) = ⊎_elim (λ (t : (other ≡ seat) × (told ≡ told)). absurd (apart t.0)) (λ (t : (other ≢ seat) × (get_elem? views other ≡ some told)). h other told t.1) (at_set views seat other told told there) in
      agree_set (known x) (set views seat told) other None (agree_set (known x) views seat told h fits) tt

  abbrev sets : Prefix T E → X → Prefix T E
  sets before operation = known operation

  -- whatever is pending, what is shown after it is the last operation
  last_is_shown : (before : Prefix T E) (pending : List X) (operation : X) → fold sets before (pending ++ operation ∷ []) ≡ known operation
  last_is_shown before [] operation = refl
  last_is_shown before (first ∷ rest) operation = last_is_shown (known first) rest operation

  pub last_shown : (before : Prefix T E) (pending all : List X) (operation : X) → all ≡ pending ++ operation ∷ [] → (after : Prefix T E) → after ≡ fold sets before all → after ≡ known operation
  last_shown before pending all operation is after shows = shows ∙ (ap (fold sets before) is ∙ last_is_shown before pending operation)

  -- publish: once all that is pending is applied, the last operation is shown
  pub publishes : (seat : ℕ) (view : Option (Prefix T E)) (shown : X) (pending all : List X) (operation : X) → Begins (known shown) (known operation) → all ≡ pending ++ operation ∷ []
      → (next : X) → known next ≡ fold sets (known shown) all → TurnsAt Rule seat view shown next SeesIt
  publishes seat view shown pending all operation begins is next shows =
      let last = last_shown (known shown) pending all operation is (known next) shows in
      shows_no_less seat view shown next (subst (λ p. Begins (known shown) p) (sym last) begins)
