-- Of finitely many paths one is before all others.
use Rattle.std.proofs.Common.{◌≡◌, refl, sym, subst, ℕ, ◌-◌, ◌⊎◌, inl, inr, List, [], ◌∷◌, length, arith}
use Rattle.std.specs.Prelude.{◌≢◌}
use Rattle.mz_base.specs.Data.{DataLists}
use Rattle.mz_base.specs.declared.lattice.Entry.{Entry}
use Rattle.mz_base.specs.declared.lattice.Lattice.{Lattice}
use Rattle.mz_base.specs.declared.lattice.Span.{Span}
use Rattle.conversion_meaning.specs.AllPaths.{all_paths}
use Rattle.conversion_meaning.specs.Best.{IsBest}
use Rattle.conversion_meaning.specs.Lattices.{IsWellFormed, no_entry}
use Rattle.conversion_meaning.specs.Order.{IsBefore}
use Rattle.conversion_meaning.specs.Paths.{IsPathOver, IsSpan}
use Rattle.conversion_meaning.proofs.Duality.{AreForward}
use Rattle.conversion_meaning.proofs.Lists.{Among}
use Rattle.conversion_meaning.proofs.Ordered.{IsBefore-trans, not_before_back, order_cases}
use Rattle.conversion_meaning.proofs.PathLemmas.{Among-all_paths, from_all_paths, path_of_characters}

module _ (d : DataLists) (es : List Entry) (span : Span) where
  -- p is the path, or before it
  abbrev IsUpTo : List ℕ → List ℕ → Type 0
  IsUpTo p q = (q ≡ p) ⊎ IsBefore d es span p q

  IsUpTo-after : (p m q : List ℕ) → IsBefore d es span p m → IsUpTo m q → IsUpTo p q
  IsUpTo-after p m q first (inl same) = inr (subst (λ x. IsBefore d es span p x) (sym same) first)
  IsUpTo-after p m q first (inr later) = inr (IsBefore-trans d es span p m q first later)

  -- the first of a list that is not empty
  first_of : (p : List ℕ) (ps : List (List ℕ)) → (m : List ℕ) × Among m (p ∷ ps) × ((q : List ℕ) → Among q (p ∷ ps) → IsUpTo m q)
  first_of p [] = (p, inl refl, only p)
    where
      only : (p q : List ℕ) → Among q (p ∷ []) → IsUpTo p q
      only p q (inl same) = inl (sym same)
      only p q (inr none) = absurd none
  first_of p (x ∷ ps) =
      let rest = first_of x ps in
      elim (order_cases d es span p rest.0) [ inl same ↦ (rest.0, inr rest.1, kept p x ps rest.0 (inl same) rest.2) | inr (inl first) ↦ (p, inl refl, taken p x ps rest.0 first rest.2) | inr (inr later) ↦ (rest.0, inr rest.1, kept p x ps rest.0 (inr later) rest.2) ]
    where
      kept : (p x : List ℕ) (ps : List (List ℕ)) (m : List ℕ) → IsUpTo m p → ((q : List ℕ) → Among q (x ∷ ps) → IsUpTo m q) → (q : List ℕ) → Among q (p ∷ (x ∷ ps)) → IsUpTo m q
      kept p x ps m after rest q (inl same) = subst (λ y. IsUpTo m y) same after
      kept p x ps m after rest q (inr h) = rest q h

      taken : (p x : List ℕ) (ps : List (List ℕ)) (m : List ℕ) → IsBefore d es span p m → ((q : List ℕ) → Among q (x ∷ ps) → IsUpTo m q) → (q : List ℕ) → Among q (p ∷ (x ∷ ps)) → IsUpTo p q
      taken p x ps m first rest q (inl same) = inl (sym same)
      taken p x ps m first rest q (inr h) = IsUpTo-after p m q first (rest q h)

  first_among : (p : List ℕ) (ps : List (List ℕ)) → Among p ps → (m : List ℕ) × Among m ps × ((q : List ℕ) → Among q ps → IsUpTo m q)
  first_among p [] h = absurd h
  first_among p (x ∷ ps) h = first_of x ps

  -- where there is a path there is a best one
  pub IsBest-exists : AreForward es → (p : List ℕ) → IsPathOver es span p → (path : List ℕ) × IsBest d es span path
  IsBest-exists forward p joined =
      let r = first_among p (all_paths es span) (Among-all_paths es span p forward joined) in
      (r.0, record { joined = from_all_paths es span r.0 r.1; first = λ q over differ. others r.0 q differ (r.2 q (Among-all_paths es span q forward over)) })
    where
      others : (m q : List ℕ) → q ≢ m → IsUpTo m q → IsBefore d es span m q
      others m q differ (inl same) = absurd (differ same)
      others m q differ (inr first) = first

  -- and it is one
  pub IsBest-one : (p q : List ℕ) → IsBest d es span p → IsBest d es span q → p ≡ q
  IsBest-one p q one other =
      elim (order_cases d es span p q) [ inl same ↦ same | inr (inl first) ↦ absurd (not_before_back d es span p q first (other.first p one.joined (apart p q first))) | inr (inr later) ↦ absurd (not_before_back d es span q p later (one.first q other.joined (apart q p later))) ]
    where
      apart : (p q : List ℕ) → IsBefore d es span p q → p ≢ q
      apart p q first same =
          let itself : IsBefore d es span p p = subst (λ x. IsBefore d es span p x) (sym same) first in
          not_before_back d es span p p itself itself

-- a well-formed lattice has forward entries
pub AreForward-from_well : (d : DataLists) (l : Lattice) → IsWellFormed d l → AreForward l.entries
AreForward-from_well d l well = λ o inside. (well.entries o no_entry inside).forward

pub IsBest-in : (d : DataLists) (l : Lattice) (span : Span) → IsWellFormed d l → IsSpan d l span → (path : List ℕ) × IsBest d l.entries span path
IsBest-in d l span well is =
    let some = path_of_characters l.entries (length l.key) well.characters (span.end - span.begin) span.begin span.end (omega (arith, is.forward)) is.inside in
    IsBest-exists d l.entries span (AreForward-from_well d l well) some.0 some.1
