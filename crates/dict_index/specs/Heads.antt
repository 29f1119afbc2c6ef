-- The places of texts in their order, each with the first letters of its text.
use Rattle.std.specs.Prelude.{◌≡◌, ℕ, zero, suc, ◌==◌, Bool, nat_lt, List, [], ◌∷◌, All, if◌then◌else◌, map}
use Rattle.dict_index.specs.Order.{IsIndex, text_at}
use Rattle.dict_index.specs.declared.heads.Head.{Head}

-- the code of the letter behind so many others: one more than its number, and 0 where the text ends before it
abbrev pub code_at : List ℕ → ℕ → ℕ
code_at [] depth = 0
code_at (letter ∷ text) zero = suc letter
code_at (letter ∷ text) (suc depth) = code_at text depth

-- the head of the text at a place
abbrev pub head_of : List (List ℕ) → ℕ → Head
head_of texts place =
    record { place = place; first = code_at (text_at texts place) 0; second = code_at (text_at texts place) 1; third = code_at (text_at texts place) 2 }

-- the code of a letter of the head's text
abbrev pub code_of : List (List ℕ) → Head → ℕ → ℕ
code_of texts head depth =
    if depth == 0 then head.first else
    if depth == 1 then head.second else
    if depth == 2 then head.third else
    code_at (text_at texts head.place) depth

-- the letter behind so many others has a lower code
abbrev pub is_below : List (List ℕ) → ℕ → ℕ → Head → Bool
is_below texts depth code head = nat_lt (code_of texts head depth) code

abbrev pub places_in : List Head → List ℕ
places_in = map (λ head. head.place)

-- each is the head of the text at its place
abbrev pub AreHeads : List (List ℕ) → List Head → Type 0
AreHeads texts = All (λ head. head ≡ head_of texts head.place)

-- the heads of all texts, in the order of the texts
pub record AreInOrder (texts : List (List ℕ)) (heads : List Head) : Type 0 where
  pub index : IsIndex texts (places_in heads)
  pub are : AreHeads texts heads
