-- How much a path costs at most.
use Rattle.std.proofs.Common.{◌≡◌, ℕ, ◌+◌, ◌-◌, ◌*◌, ◌<◌, List, [], ◌∷◌, length, arith}
use Rattle.std.specs.Prelude.{ℤ}
use Rattle.std.specs.List.{All}
use Rattle.std.proofs.lemmas.Int.{ints}
use Rattle.mz_base.specs.Data.{DataLists, AreDataSound}
use Rattle.mz_base.specs.declared.lattice.Entry.{Entry}
use Rattle.mz_base.specs.declared.lattice.Lattice.{Lattice}
use Rattle.mz_base.specs.declared.lattice.Span.{Span}
use Rattle.conversion_meaning.specs.Bounds.{IsWithin, most_path, most_step}
use Rattle.conversion_meaning.specs.Lattices.{IsEntry, IsWellFormed, entry, no_entry}
use Rattle.conversion_meaning.specs.Paths.{IsPath, IsPathOver, IsSpan, cost_between, path_cost}
use Rattle.conversion_meaning.specs.Potentials.{IsLeastCost}
use Rattle.conversion_meaning.proofs.Duality.{AreForward, IsPath-forward}

module _ (d : DataLists) (sound : AreDataSound d) (key bounds : List ℕ) (es : List Entry) (are : All (IsEntry d key bounds) es) where
  forward : AreForward es
  forward = λ o inside. (are o no_entry inside).forward

  -- Each entry takes a character at least, so a path costs no more than a step a character, and the last connection.
  pub IsWithin-cost_between : (left right n from to : ℕ) (path : List ℕ) → left < d.ids → right < d.ids → IsPath es from to path → from + n ≡ to → IsWithin (most_path n) (cost_between d es left right path)
  IsWithin-cost_between left right n from to [] left_is right_is joined sum =
      let c = sound.connections left right left_is right_is in
      let low = c.above in
      let high = c.below in
      record { above = omega (arith, ints, low); below = omega (arith, ints, high) }
  IsWithin-cost_between left right n from to (o ∷ path) left_is right_is joined sum =
      let e = are o no_entry joined.0 in
      let c = sound.connections left (entry es o).lid left_is e.left in
      let ahead = e.forward in
      let there = IsPath-forward es forward (entry es o).end to path joined.2 in
      let m = to - (entry es o).end in
      let begins = joined.1 in
      let rest = IsWithin-cost_between (entry es o).rid right m (entry es o).end to path e.right right_is joined.2 (omega arith) in
      let first_high = c.below in
      let own_high = e.cost.below in
      let rest_high = rest.below in
      let first_low = c.above in
      let own_low = e.cost.above in
      let rest_low = rest.above in
      record { above = omega (arith, ints, first_low, own_low, rest_low, ahead, begins); below = omega (arith, ints, first_high, own_high, rest_high, ahead, begins) }

pub IsWithin-path_cost : (d : DataLists) (l : Lattice) (span : Span) (path : List ℕ) → AreDataSound d → IsWellFormed d l → IsSpan d l span → IsPathOver l.entries span path → IsWithin (most_path (span.end - span.begin)) (path_cost d l.entries span path)
IsWithin-path_cost d l span path sound well is joined =
    IsWithin-cost_between d sound l.key l.bounds l.entries well.entries span.left span.right (span.end - span.begin) span.begin span.end path is.left is.right joined (omega (arith, is.forward))

-- a least cost is no more than a step a character up to the entry's end
pub IsWithin-least : (d : DataLists) (l : Lattice) (span : Span) (o : ℕ) (cost : ℤ) → AreDataSound d → IsWellFormed d l → IsSpan d l span → o < length l.entries → IsLeastCost d l.entries span o cost → IsWithin (most_step * ((entry l.entries o).end - span.begin)) cost
IsWithin-least d l span o cost sound well is inside least =
    let e = well.entries o no_entry inside in
    let way = least.reached in
    let forward : AreForward l.entries = λ x h. (well.entries x no_entry h).forward in
    let there = IsPath-forward l.entries forward span.begin (entry l.entries o).begin way.0 way.1 in
    let before = IsWithin-cost_between d sound l.key l.bounds l.entries well.entries span.left (entry l.entries o).lid ((entry l.entries o).begin - span.begin) span.begin (entry l.entries o).begin way.0 is.left e.left way.1 (omega arith) in
    let low = before.above in
    let high = before.below in
    let own_low = e.cost.above in
    let own_high = e.cost.below in
    let ahead = e.forward in
    let sum = way.2 in
    record { above = omega (arith, ints, low, own_low, ahead, there, sum); below = omega (arith, ints, high, own_high, ahead, there, sum) }
