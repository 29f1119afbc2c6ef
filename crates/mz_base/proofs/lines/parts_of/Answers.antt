use Rattle.std.proofs.Common.{◌≡◌, ℕ, List, [], ◌∷◌, map, refl, rules, ap}
use Rattle.std.specs.Borrow.{Bor}
use Rattle.std.specs.Str.Lines.{strip_carriage_return}
use Rattle.std.proofs.lemmas.Iterator.{YieldsList-from_map_by, YieldsList-from_slice}
use Rattle.std.proofs.lemmas.Iterator.Consumers.{map_from_collect}
use Rattle.std.proofs.lemmas.Result.{IfOk-at_ok}
use Rattle.mz_base.specs.Lines.{lines_in, pointed}
use Rattle.mz_base.proofs.lines.parts_of.Goals as goal

map-pointed : (f : List ℕ → List ℕ) (parts : List (Bor (List ℕ))) → map (λ (part : Bor (List ℕ)). f part.now) parts ≡ map f (pointed parts)
map-pointed f [] = refl
map-pointed f (part ∷ parts) = ap (λ rest. f part.now ∷ rest) (map-pointed f parts)

pub returns : goal.returns
unfolding lines_in
returns c =
    let stripped : pointed c.in_ok-collect.field-0.items ≡ map (λ (part : Bor (List ℕ)). strip_carriage_return part.now) c.in_ok-parts.parts.items = IfOk-at_ok _ c.in_ok-collect.was (map_from_collect _ c.collect.ensures.ran (YieldsList-from_map_by _ _ _ (YieldsList-from_slice _ cc) c.map.ensures.closure (λ x r q k. search rules))) in
    let moved = map-pointed strip_carriage_return c.in_ok-parts.parts.items in
    search rules
