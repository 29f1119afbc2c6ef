-- Of items that are alike the first.
use Rattle.std.specs.Prelude.{Bool, List, [], ◌∷◌, filter}

-- each item that differs from all before it
unfoldable pub firsts : {A : Type 0} → (A → A → Bool) → List A → List A
firsts differs [] = []
firsts differs (item ∷ rest) = item ∷ filter (differs item) (firsts differs rest)
