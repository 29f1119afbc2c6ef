-- Roles, and the texts of faults: docs/FORMATS.md, "Faults".
use Rattle.std.specs.Prelude.{ℕ, Bool, List, [], ◌∷◌, codes}
use Rattle.std.specs.List.{join_with_byte}
use Rattle.std.specs.Fmt.{decimal}
use denote.Enum.Bare.{sameb}
use Rattle.mz_base.specs.contracts.fault.Role.{the_type}
use Rattle.mz_base.specs.declared.fault.FaultKind.{FaultKind}
use Rattle.mz_base.specs.declared.fault.Role.{Role}
use Rattle.mz_base.specs.declared.fault.FaultKind.TheVariants.{NotUtf8, Fields, Empty, Class, Number, Range, NoFeature, LongPending, Limit, Size, Count}

-- two roles are one
unfoldable pub same_role : Role → Role → Bool
same_role = sameb the_type

-- a fault's name, and its numbers
abbrev pub kind_fields : FaultKind → List (List ℕ)
kind_fields (NotUtf8 line) = codes "not-utf8" ∷ decimal line ∷ []
kind_fields (Fields line) = codes "fields" ∷ decimal line ∷ []
kind_fields (Empty line) = codes "empty" ∷ decimal line ∷ []
kind_fields (Class line) = codes "class" ∷ decimal line ∷ []
kind_fields (Number line) = codes "number" ∷ decimal line ∷ []
kind_fields (Range line) = codes "range" ∷ decimal line ∷ []
kind_fields (NoFeature line) = codes "no-feature" ∷ decimal line ∷ []
kind_fields (LongPending line) = codes "long-pending" ∷ decimal line ∷ []
kind_fields (Limit line) = codes "limit" ∷ decimal line ∷ []
kind_fields Size = codes "size" ∷ []
kind_fields (Count wanted found) = codes "count" ∷ decimal wanted ∷ decimal found ∷ []

-- in a status a space separates them
abbrev pub kind_text : FaultKind → List ℕ
kind_text kind = join_with_byte 32 (kind_fields kind)
