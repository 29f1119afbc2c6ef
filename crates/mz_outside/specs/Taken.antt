-- What a sink has taken, where it tells that: the bytes in the order in which they came.
use Rattle.std.specs.Prelude.{◌≡◌, ℕ, ◌<◌, List, ◌++◌, length, take, Option, option_map}

-- what is held once these bytes came too
abbrev pub with_more : Option (List ℕ) → List ℕ → Option (List ℕ)
with_more held more = option_map (λ bytes. bytes ++ more) held

-- a front of these bytes came, and not all of them
pub record AddsFront (old new : Option (List ℕ)) (bytes : List ℕ) : Type 0 where
  pub count : ℕ
  pub not_all : count < length bytes
  pub front : new ≡ with_more old (take count bytes)
