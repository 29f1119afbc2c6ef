-- Laws of what a sink has taken.
use Rattle.std.proofs.Common.{◌≡◌, ℕ, ◌+◌, List, [], ◌++◌, take, drop, refl, ap, sym, ◌∙◌, append_assoc, append-nil, is_some}
use Rattle.std.specs.Prelude.{Option, Some, None}
use Rattle.std.proofs.Math.Seq.{take-add}
use Rattle.std.specs.Io.KnownBytes.{Appends, Keeps}
use Rattle.mz_outside.specs.Taken.{with_more}

-- two pieces are one
pub with_more-append : (held : Option (List ℕ)) (xs ys : List ℕ) → with_more (with_more held xs) ys ≡ with_more held (xs ++ ys)
with_more-append None xs ys = refl
with_more-append (Some bytes) xs ys = ap (λ b. Some b) (append_assoc bytes xs ys)

-- a front and the next bytes are a longer front
pub longer_front : (first before after : Option (List ℕ)) (bytes : List ℕ) (m n : ℕ) → before ≡ with_more first (take m bytes) → after ≡ with_more before (take n (drop m bytes)) → after ≡ with_more first (take (m + n) bytes)
longer_front first before after bytes m n front next =
    next ∙ ap (λ held. with_more held (take n (drop m bytes))) front ∙ with_more-append first (take m bytes) (take n (drop m bytes)) ∙ ap (λ more. with_more first more) (sym (take-add m n bytes))

-- what a steady writer appended is what a sink has more
pub with_more-from_Appends : (old new : Option (List ℕ)) (bytes : List ℕ) → is_some new ≡ is_some old → Appends old new bytes → new ≡ with_more old bytes
with_more-from_Appends None None bytes steady appended = refl
with_more-from_Appends None (Some ys) bytes steady appended = absurd (cc)
with_more-from_Appends (Some xs) None bytes steady appended = absurd appended
with_more-from_Appends (Some xs) (Some ys) bytes steady appended = ap (λ b. Some b) appended

-- what a steady writer kept is the same
pub same-from_Keeps : (old new : Option (List ℕ)) → is_some new ≡ is_some old → Keeps old new → new ≡ old
same-from_Keeps None None steady kept = refl
same-from_Keeps None (Some ys) steady kept = absurd (cc)
same-from_Keeps (Some xs) None steady kept = absurd kept
same-from_Keeps (Some xs) (Some ys) steady kept = ap (λ b. Some b) kept

-- no more bytes are none
pub with_more-nil : (held : Option (List ℕ)) → with_more held [] ≡ held
with_more-nil None = refl
with_more-nil (Some bytes) = ap (λ b. Some b) (append-nil bytes)

pub ruleset steady_writes = (with_more-from_Appends, same-from_Keeps, with_more-nil)
