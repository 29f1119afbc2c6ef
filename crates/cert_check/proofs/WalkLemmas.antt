-- Steps of a walk along a path.
use Rattle.std.proofs.Common.{◌≡◌, refl, sym, ap, subst, ◌∙◌, ℕ, ◌+◌, ◌*◌, ◌<◌, ◌≤◌, List, [], ◌∷◌, ◌++◌, length, take, drop, get_or, Some, arith, add-one, drop-cons}
use Rattle.std.specs.Prelude.{ℤ, pos, neg_ℤ, ◌+ℤ◌, ◌≤ℤ◌}
use Rattle.std.proofs.lemmas.Int.{ints}
use Rattle.std.proofs.lemmas.List.{take_more, take_all, drop_all}
use Rattle.mz_base.specs.Data.{DataLists, IsCost, connection}
use Rattle.mz_base.specs.declared.lattice.Entry.{Entry}
use Rattle.mz_base.specs.declared.lattice.Span.{Span}
use Rattle.conversion_meaning.specs.Bounds.{most_step}
use Rattle.conversion_meaning.specs.Lattices.{entry}
use Rattle.conversion_meaning.specs.Paths.{IsPath, IsPathOver, cost_between, path_cost}
use Rattle.cert_check.specs.Walks.{AreInside, AreSound, Follows, IsInKey, IsSound}

-- a path and an entry that begins where it ends are a path
pub IsPath-push : (es : List Entry) (from here o : ℕ) (path : List ℕ) → IsPath es from here path → o < length es → (entry es o).begin ≡ here → IsPath es from (entry es o).end (path ++ o ∷ [])
IsPath-push es from here o [] joined inside begins = (inside, begins ∙ sym joined, refl)
IsPath-push es from here o (x ∷ path) joined inside begins =
    (joined.0, joined.1, IsPath-push es (entry es x).end here o path joined.2 inside begins)

-- the walk is at this place of the path
pub record IsAt (d : DataLists) (es : List Entry) (span : Span) (path : List ℕ) (here rid : ℕ) (cost : ℤ) (place : ℕ) : Type 0 where
  pub joined : IsPath es span.begin here (take place path)
  pub sum : cost +ℤ cost_between d es rid span.right (drop place path) ≡ cost_between d es span.left span.right path
  pub low : neg_ℤ (pos (most_step * here)) ≤ℤ cost
  pub high : cost ≤ℤ pos (most_step * here)
  pub inside : here ≤ span.end
  pub id : rid < d.ids

-- a walk begins at the start
pub IsAt-start : (d : DataLists) (es : List Entry) (span : Span) (path : List ℕ) → IsInKey d span → IsAt d es span path span.begin span.left (pos 0) 0
IsAt-start d es span path key =
    record { joined = refl; sum = omega (arith, ints); low = omega (arith, ints); high = omega (arith, ints); inside = key.forward; id = key.left }

module _ (d : DataLists) (es : List Entry) (span : Span) (path : List ℕ) (here rid : ℕ) (cost : ℤ) (place : ℕ) (at : IsAt d es span path here rid cost place) where
  -- it goes on with an entry that begins here
  pub IsAt-next : (e : Entry) (k next : ℤ) → AreSound d es → AreInside es span.end → place < length path → Follows es here (get_or path place 0) (Some e) → k ≡ connection d rid e.lid → IsCost k → next ≡ cost +ℤ (k +ℤ e.cost) → IsAt d es span path e.end e.rid next (place + 1)
  IsAt-next e k next sound within inside (there, is, begins) k_is small next_is =
      record { joined = joined; sum = sum; low = omega (arith, ints, at.low, small.above, here_sound.cost.above, further, next_is); high = omega (arith, ints, at.high, small.below, here_sound.cost.below, further, next_is); inside = subst (λ (x : Entry). x.end ≤ span.end) (sym is) (within.each (get_or path place 0) there); id = here_sound.right }
    where
      o : ℕ
      o = get_or path place 0

      here_sound : IsSound d e
      here_sound = subst (λ (x : Entry). IsSound d x) (sym is) (sound.each (get_or path place 0) there)

      further : here + 1 ≤ e.end
      further = let f = here_sound.forward in omega (arith, f, begins)

      front : take (place + 1) path ≡ take place path ++ get_or path place 0 ∷ []
      front = take_more path place 0 inside

      pushed : IsPath es span.begin (entry es (get_or path place 0)).end (take place path ++ get_or path place 0 ∷ [])
      pushed =
          IsPath-push es span.begin here (get_or path place 0) (take place path) at.joined there (ap (λ (x : Entry). x.begin) (sym is) ∙ begins)

      joined : IsPath es span.begin e.end (take (place + 1) path)
      joined =
          subst (λ p. IsPath es span.begin e.end p) (sym front) (subst (λ (x : Entry). IsPath es span.begin x.end (take place path ++ get_or path place 0 ∷ [])) (sym is) pushed)

      rest : drop place path ≡ get_or path place 0 ∷ drop (place + 1) path
      rest = rw (add-one, drop-cons path place 0) refl

      total : cost +ℤ cost_between d es rid span.right (get_or path place 0 ∷ drop (place + 1) path) ≡ cost_between d es span.left span.right path
      total = subst (λ p. cost +ℤ cost_between d es rid span.right p ≡ cost_between d es span.left span.right path) rest at.sum

      whole : cost +ℤ ((connection d rid e.lid +ℤ e.cost) +ℤ cost_between d es e.rid span.right (drop (place + 1) path)) ≡ cost_between d es span.left span.right path
      whole =
          subst (λ (x : Entry). cost +ℤ ((connection d rid x.lid +ℤ x.cost) +ℤ cost_between d es x.rid span.right (drop (place + 1) path)) ≡ cost_between d es span.left span.right path) (sym is) total

      sum : next +ℤ cost_between d es e.rid span.right (drop (place + 1) path) ≡ cost_between d es span.left span.right path
      sum = let w = whole in omega (arith, ints, w, k_is, next_is)

  -- at the end of the path it is a path over the key
  pub IsAt-end : (k next : ℤ) → length path ≤ place → here ≡ span.end → k ≡ connection d rid span.right → next ≡ cost +ℤ k → IsPathOver es span path × (next ≡ path_cost d es span path)
  IsAt-end k next over there k_is next_is = (joined, sum)
    where
      joined : IsPath es span.begin span.end path
      joined =
          subst (λ x. IsPath es span.begin x path) there (subst (λ p. IsPath es span.begin here p) (take_all place path over) at.joined)

      rest : drop place path ≡ []
      rest = drop_all place path over

      sum : next ≡ cost_between d es span.left span.right path
      sum =
          let w : cost +ℤ connection d rid span.right ≡ cost_between d es span.left span.right path = subst (λ p. cost +ℤ cost_between d es rid span.right p ≡ cost_between d es span.left span.right path) rest at.sum in
          omega (arith, ints, w, k_is, next_is)

-- an entry that follows is sound
pub Follows-sound : (d : DataLists) (es : List Entry) (here o : ℕ) (e : Entry) → AreSound d es → Follows es here o (Some e) → IsSound d e
Follows-sound d es here o e sound (there, is, begins) =
    subst (λ (x : Entry). IsSound d x) (sym is) (sound.each o there)
