-- Items that rise are the bounds that they spell.
use Rattle.std.proofs.Common.{◌≡◌, ℕ, ◌+◌, Bool, true, false, ◌&&◌, List, [], ◌∷◌, ◌++◌, ◌==◌, Option, Some, None, option_and_then, option_map, is_some, unwrap_or, length, if◌then◌else◌, nat_lt, nat_le, refl, ap, ◌∙◌, append_assoc}
use Rattle.std.proofs.lemmas.Bool.{false≢true}
use Rattle.std.specs.Borrow.{Bor}
use Rattle.std.specs.List.{slice_split}
use Rattle.mz_base.specs.Numbers.{number_of}
use Rattle.cert_text.proofs.RiseLemmas.{RiseWithin_from_test}
use Rattle.cert_text.specs.Fields.{only_if, values_of, rises, bounds_in, RiseWithin}
use Rattle.world_files.specs.BoundTexts.{rising}

option_map-if : {A B : Type 0} (f : A → B) (b : Bool) (value : A) → option_map f (if b then Some value else None) ≡ (if b then Some (f value) else None)
option_map-if f true value = refl
option_map-if f false value = refl

-- what the items after a bound spell, by whether the bound is above the one before and fits
after-bound : (last before : ℕ) (items : List (List ℕ)) (bound : ℕ) (values : Option (List ℕ)) (above fits : Bool) → nat_lt before bound ≡ above → nat_le bound last ≡ fits → rising last bound items ≡ option_and_then (only_if (rises last bound)) values → option_and_then (λ bound. option_map (λ bounds. bound ∷ bounds) (rising last bound items)) (if above && fits then Some bound else None) ≡ option_and_then (only_if (rises last before)) (option_map (λ values. bound ∷ values) values)
after-bound last before items bound None true true above_is fits_is rest =
    ap (option_map (λ bounds. bound ∷ bounds)) rest
after-bound last before items bound None true false above_is fits_is rest = refl
after-bound last before items bound None false fits above_is fits_is rest = refl
after-bound last before items bound (Some values) true true above_is fits_is rest =
    ap (option_map (λ bounds. bound ∷ bounds)) rest ∙ (option_map-if (λ bounds. bound ∷ bounds) (rises last bound values) values ∙ simp (above_is, fits_is))
after-bound last before items bound (Some values) true false above_is fits_is rest = simp (above_is, fits_is)
after-bound last before items bound (Some values) false fits above_is fits_is rest = simp above_is

after-item : (last before : ℕ) (items : List (List ℕ)) (values : Option (List ℕ)) (found : Option ℕ) → ((bound : ℕ) → rising last bound items ≡ option_and_then (only_if (rises last bound)) values) → option_and_then (λ bound. option_map (λ bounds. bound ∷ bounds) (rising last bound items)) (option_and_then (only_if (λ bound. nat_lt before bound && nat_le bound last)) found) ≡ option_and_then (only_if (rises last before)) (option_and_then (λ value. option_map (λ values. value ∷ values) values) found)
after-item last before items values None rest = refl
after-item last before items values (Some bound) rest =
    after-bound last before items bound values (nat_lt before bound) (nat_le bound last) refl refl (rest bound)

-- the items spell what their numbers are, where these rise
pub rising-bounds : (last before : ℕ) (items : List (List ℕ)) → rising last before items ≡ option_and_then (only_if (rises last before)) (values_of number_of items)
rising-bounds last before [] = refl
rising-bounds last before (item ∷ items) =
    after-item last before items (values_of number_of items) (number_of item) (λ bound. rising-bounds last bound items)

-- of bounds that there are
some-unwrap : {A : Type 0} (found : Option A) (d : A) → is_some found ≡ true → Some (unwrap_or found d) ≡ found
some-unwrap (Some value) d is = refl
some-unwrap None d is = absurd (false≢true is)

pub bounds_in_rising : (last : ℕ) (text : List ℕ) → is_some (bounds_in last text) ≡ true → Some (unwrap_or (rising last 0 (slice_split (λ b. b == 44) text)) []) ≡ bounds_in last text
bounds_in_rising last text is =
    ap (λ found. Some (unwrap_or found [])) (rising-bounds last 0 (slice_split (λ b. b == 44) text)) ∙ some-unwrap (bounds_in last text) [] is

within-if : (last : ℕ) (values : List ℕ) (b : Bool) → rises last 0 values ≡ b → is_some (if b then Some values else None) ≡ true → RiseWithin last (unwrap_or (if b then Some values else None) [])
within-if last values true rise is = RiseWithin_from_test last values rise
within-if last values false rise is = absurd (false≢true is)

within-only : (last : ℕ) (values : Option (List ℕ)) → is_some (option_and_then (only_if (rises last 0)) values) ≡ true → RiseWithin last (unwrap_or (option_and_then (only_if (rises last 0)) values) [])
within-only last None is = absurd (false≢true is)
within-only last (Some values) is = within-if last values (rises last 0 values) refl is

pub bounds_in_within : (last : ℕ) (text : List ℕ) → is_some (bounds_in last text) ≡ true → RiseWithin last (unwrap_or (rising last 0 (slice_split (λ b. b == 44) text)) [])
bounds_in_within last text is =
    let items = slice_split (λ b. b == 44) text in
    rw (rising-bounds last 0 items) (within-only last (values_of number_of items) is)

-- whether a list is spelled does not depend on what stands before it
pub is_some_option_map : {A B : Type 0} (f : A → B) (found : Option A) → is_some (option_map f found) ≡ is_some found
is_some_option_map f None = refl
is_some_option_map f (Some value) = refl

-- the bounds so far, and then those of the items that are left
pub added-none : (before : List ℕ) (found : Option (List ℕ)) → before ≡ [] → option_map (λ rest. before ++ rest) found ≡ found
added-none before None is = refl
added-none before (Some bounds) is = ap (λ before. Some (before ++ bounds)) is

pub added_bound : (before : List ℕ) (bound : ℕ) (found : Option (List ℕ)) → option_map (λ rest. (before ++ bound ∷ []) ++ rest) found ≡ option_map (λ rest. before ++ rest) (option_map (λ bounds. bound ∷ bounds) found)
added_bound before bound None = refl
added_bound before bound (Some bounds) = ap Some (append_assoc before (bound ∷ []) bounds)

-- how much is left of a text, and whether there is one
abbrev pub length_left : Option (Bor (List ℕ)) → ℕ
length_left None = 0
length_left (Some text) = length text.now + 1
