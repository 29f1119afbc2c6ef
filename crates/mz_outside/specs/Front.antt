-- What is read of a file without an end: its first bytes.
use Rattle.std.specs.Prelude.{◌≡◌, ℕ, List, Option, None, Some, take, ⊤}

-- these are the first n bytes of what a reader had left, or all, where that is known
abbrev pub IsFront : ℕ → Option (List ℕ) → List ℕ → Type 0
IsFront n None bytes = ⊤
IsFront n (Some left) bytes = bytes ≡ take n left
