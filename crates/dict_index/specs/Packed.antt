-- Texts that lie in one list of characters, one behind the other.
use Rattle.std.specs.Prelude.{◌≡◌, ℕ, ◌≤◌, List, [], ◌∷◌, length, slice_range}

-- the texts that end at these places, each from where the one before it ends
abbrev pub texts_from : List ℕ → ℕ → List ℕ → List (List ℕ)
texts_from letters start [] = []
texts_from letters start (end ∷ ends) = slice_range letters start end ∷ texts_from letters end ends

-- the texts that start at these places; the last place is the end of the last one
abbrev pub texts_of : List ℕ → List ℕ → List (List ℕ)
texts_of letters [] = []
texts_of letters (start ∷ starts) = texts_from letters start starts

-- the places rise from the first to the last
abbrev pub RiseTo : ℕ → List ℕ → ℕ → Type 0
RiseTo first [] last = first ≡ last
RiseTo first (next ∷ places) last = (first ≤ next) × RiseTo next places last

-- the last text ends where the characters end
abbrev pub IsPacked : List ℕ → List ℕ → Type 0
IsPacked letters [] = ⊥
IsPacked letters (start ∷ starts) = RiseTo start starts (length letters)
