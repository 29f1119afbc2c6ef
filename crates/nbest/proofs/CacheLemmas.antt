-- What a cache keeps.
use Rattle.std.proofs.Common.{◌≡◌, sym, ap, ◌∙◌, refl, subst, ℕ, zero, suc, ◌<◌, List, [], ◌∷◌, Option, Some, None, length, get_or, set, arith}
use Rattle.std.specs.Prelude.{ℤ}
use Rattle.std.specs.List.{All}
use Rattle.std.proofs.lemmas.List.Elements.{All-set}
use Rattle.mz_base.specs.Data.{DataLists}
use Rattle.mz_base.specs.declared.lattice.Lattice.{Lattice}
use Rattle.mz_base.specs.declared.lattice.Span.{Span}
use Rattle.nbest.specs.Lists.{Listed, Stands}
use Rattle.nbest.specs.Searches.{AreKept, AreSiblings, IsKept}
use Rattle.nbest.specs.declared.tail.Sibling.{Sibling}

default_any : {X : Type 0} (xs : List X) (n : ℕ) (x y : X) → n < length xs → get_or xs n x ≡ get_or xs n y
default_any [] n x y low = absurd (omega (arith, low))
default_any (z ∷ xs) zero x y low = refl
default_any (z ∷ xs) (suc n) x y low = default_any xs n x y (omega (arith, low))

-- what is found in a slot stands there
pub Stands-at : (cache : List (Option Listed)) (n begin lid : ℕ) (ss : List Sibling) (x : Option Listed) (k : Listed) → n < length cache → x ≡ get_or cache n x → x ≡ Some k → k.begin ≡ begin → k.lid ≡ lid → ss ≡ k.siblings → Stands cache begin lid ss
Stands-at cache n begin lid ss x k low is kept begins lids same = record {
  place = n;
  inside = low;
  is = default_any cache n None x low ∙ (sym is ∙ (kept ∙ (ap (λ b. Some (record { begin = b; lid = k.lid; siblings = k.siblings })) begins ∙ (ap (λ i. Some (record { begin = begin; lid = i; siblings = k.siblings })) lids ∙ ap (λ xs. Some (record { begin = begin; lid = lid; siblings = xs })) (sym same)))));
}

module _ (d : DataLists) (l : Lattice) (span : Span) (costs : List ℤ) where
  -- it is right
  pub AreSiblings-kept : (cache : List (Option Listed)) (begin lid : ℕ) (ss : List Sibling) → AreKept d l span costs cache → Stands cache begin lid ss → AreSiblings d l span costs begin lid ss
  AreSiblings-kept cache begin lid ss kept stands =
      subst (λ (k : Option Listed). IsKept d l span costs k) stands.is (kept stands.place None stands.inside)

  -- a cache with nothing in it
  pub AreKept-none : (cache : List (Option Listed)) → All (λ (k : Option Listed). k ≡ None) cache → AreKept d l span costs cache
  AreKept-none cache none k x low = subst (λ (y : Option Listed). IsKept d l span costs y) (sym (none k x low)) tt

  -- a slot is taken
  pub AreKept-set : (cache new : List (Option Listed)) (n begin lid : ℕ) (ss : List Sibling) → AreKept d l span costs cache → AreSiblings d l span costs begin lid ss → new ≡ set cache n (Some (record { begin = begin; lid = lid; siblings = ss })) → AreKept d l span costs new
  AreKept-set cache new n begin lid ss kept are is =
      subst (λ xs. AreKept d l span costs xs) (sym is) (All-set (IsKept d l span costs) cache n (Some (record { begin = begin; lid = lid; siblings = ss })) are kept)
