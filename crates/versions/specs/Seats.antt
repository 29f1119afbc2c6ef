-- The rule of a registry: what each seat at it knows is nothing, or a prefix of what is shown.
use Rattle.std.specs.Prelude.{◌≡◌, ℕ, List, Option, Some, None, ⊤}
use mathlib.Core.Option.{some}
use lib.ListN.{get_elem?}
use Rattle.logbook.specs.Pages.{Book}
use Rattle.versions.specs.Histories.{Prefix, Begins}

module _ {T E : Type 0} where
  -- what a seat knows begins what is shown
  abbrev pub Agrees : Option (Prefix T E) → Prefix T E → Type 0
  Agrees None shown = ⊤
  Agrees (Some known) shown = Begins known shown

  abbrev pub AllAgree : Prefix T E → List (Option (Prefix T E)) → Type 0
  AllAgree shown views = (seat : ℕ) (view : Option (Prefix T E)) → get_elem? views seat ≡ some view → Agrees view shown

  -- the seat knows something of this registry
  abbrev pub SitsAt : Book → Option (Prefix T E) → Type 0
  SitsAt registry view = (known : Prefix T E) × (view ≡ Some known) × (known.registry ≡ registry)
