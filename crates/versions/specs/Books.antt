-- The rule of the book that holds a registry's history, and what a step on its one word tells.
use Rattle.std.specs.Prelude.{ℕ, ◌≡◌, ◌==◌, true, List, [], ◌∷◌, ◌++◌, length, MatchBool}
use Rattle.logbook.specs.Pages.{Cell, Step, View, Book, Named}
use Rattle.versions.specs.declared.history.Version.{Version}
use Rattle.versions.specs.Histories.{Prefix, entries_of, IsPlace}

module _ {T E : Type 0} where
  -- the word is the number of operations
  abbrev pub IsKept : List Cell → List (Version T E) → Type 0
  IsKept cells log = (n : ℕ) × IsPlace n log × (cells ≡ (n, true) ∷ [])

  -- the version was added to all that had been seen, where the word was as expected
  abbrev pub Adds : Step (Version T E) → View (Version T E) ℕ → ℕ → View (Version T E) ℕ → Type 0
  Adds s v found w = MatchBool (found == s.old) (w.0 ≡ v.0 ++ s.ask ∷ []) (IsPlace found w.0)

-- the one word of a registry's book
abbrev pub head_of : Book → Named
head_of book = record { tracked = true; key = 0; book = book }

-- What a publisher keeps of the whole history: the book's word, and the entry of each operation
pub record Keeps {T E : Type 0} (whole : Prefix T E) (word : Named) (entries : List E) : Type 0 where
  pub head : word ≡ head_of whole.registry
  pub entries_are : entries ≡ entries_of whole.log
  pub all : IsPlace (length entries) whole.log
