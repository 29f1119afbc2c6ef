-- The history of a registry: its start value, and then the value and the entry of each operation (docs/REGISTRIES.md).
use Rattle.std.specs.Prelude.{◌≡◌, ℕ, ◌+◌, List, [], ◌∷◌, ◌++◌, length, Option, Some, None, option_to_list, nat_lt, if◌then◌else◌, refl}
use Rattle.std.specs.Coded.{Coded, code_by, coded×, coded_ℕ, coded_list, coded_option}
use mathlib.Core.List.{IsPrefix}
use Rattle.logbook.specs.Pages.{Book, book_coded}
use Rattle.versions.specs.declared.history.Version.{Version}

-- what one thread knows of a registry: which one it is, and a prefix of its history
pub record Prefix (T E : Type 0) : Type 0 where
  pub registry : Book
  pub log : List (Version T E)

-- what a reader stands for, and how many receipts it has learned since its last take that looked
pub record Standing (T E : Type 0) : Type 0 where
  pub prefix : Prefix T E
  pub unmet : ℕ

module _ {T E : Type 0} where
  -- the start value, which no operation installed
  abbrev pub started : T → Version T E
  started value = record { value = value; entry = None }

  -- what one operation adds
  abbrev pub installed : T → E → Version T E
  installed value entry = record { value = value; entry = Some entry }

  -- so many operations made this history
  abbrev pub IsPlace : ℕ → List (Version T E) → Type 0
  IsPlace n log = length log ≡ n + 1

  -- the value that the history leaves
  abbrev pub latest : List (Version T E) → Option T
  latest [] = None
  latest (version ∷ []) = Some version.value
  latest (version ∷ (next ∷ rest)) = latest (next ∷ rest)

  -- the entries of the operations, in order
  abbrev pub entries_of : List (Version T E) → List E
  entries_of [] = []
  entries_of (version ∷ rest) = option_to_list version.entry ++ entries_of rest

  -- p after one operation more
  abbrev pub after_operation : Prefix T E → T → E → Prefix T E
  after_operation p value entry = record p { log = p.log ++ installed value entry ∷ [] }

  -- q is of p's registry, and its history begins p's
  abbrev pub Begins : Prefix T E → Prefix T E → Type 0
  Begins q p = (q.registry ≡ p.registry) × IsPrefix q.log p.log

  -- of two prefixes the one with more operations, p where they have as many
  abbrev pub longer_of : Prefix T E → Prefix T E → Prefix T E
  longer_of p q = if nat_lt (length p.log) (length q.log) then q else p

-- a version is stored as the pair of its fields, and so are a prefix and what a reader stands for
abbrev pub version_code : {T E : Type 0} → Coded T → Coded E → Coded (Version T E)
version_code {T} {E} value entry = code_by (T × Option E) (coded× value (coded_option entry)) (λ v. (v.value, v.entry)) (λ p. record { value = p.0; entry = p.1 }) (λ _. refl)

abbrev pub prefix_code : {T E : Type 0} → Coded T → Coded E → Coded (Prefix T E)
prefix_code {T} {E} value entry =
    code_by (Book × List (Version T E)) (coded× book_coded (coded_list (version_code value entry))) (λ p. (p.registry, p.log)) (λ p. record { registry = p.0; log = p.1 }) (λ _. refl)

abbrev pub standing_code : {T E : Type 0} → Coded T → Coded E → Coded (Standing T E)
standing_code {T} {E} value entry = code_by (Prefix T E × ℕ) (coded× (prefix_code value entry) coded_ℕ) (λ s. (s.prefix, s.unmet)) (λ p. record { prefix = p.0; unmet = p.1 }) (λ _. refl)
