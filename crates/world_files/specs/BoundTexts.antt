-- The bounds that words of the command line spell, item by item: docs/FORMATS.md, "Convert and verify".
use Rattle.std.specs.Prelude.{ℕ, ◌==◌, ◌&&◌, List, [], ◌∷◌, Option, Some, None, option_and_then, option_map, nat_lt, nat_le}
use Rattle.std.specs.Borrow.{Bor}
use Rattle.std.specs.List.{slice_split}
use Rattle.mz_base.specs.Numbers.{number_of}
use Rattle.cert_text.specs.Fields.{only_if}

-- the items of a text with commas, where there is a text
abbrev pub items_left : Option (Bor (List ℕ)) → List (List ℕ)
items_left None = []
items_left (Some text) = slice_split (λ b. b == 44) text.now

-- a bound above the one before it, and not above the last position
abbrev pub next_bound : ℕ → ℕ → List ℕ → Option ℕ
next_bound last before item = option_and_then (only_if (λ bound. nat_lt before bound && nat_le bound last)) (number_of item)

-- the bounds that items spell after a bound, where each item is such a bound
abbrev pub rising : ℕ → ℕ → List (List ℕ) → Option (List ℕ)
rising last before [] = Some []
rising last before (item ∷ items) =
    option_and_then (λ bound. option_map (λ bounds. bound ∷ bounds) (rising last bound items)) (next_bound last before item)
