-- The characters that keys type are those of fields.
use Rattle.std.proofs.Common.{◌≡◌, refl, subst, ℕ, Bool, true, false, List, [], ◌∷◌, Some, None, if◌then◌else◌, ◌==◌, arith}
use Rattle.std.specs.Prelude.{◌<◌, ◌&&◌, not, nat_lt, bytes_eq}
use Rattle.std.specs.List.{AllByRecursion}
use Rattle.std.proofs.lemmas.Bool.Decides.{nat_tests}
use Rattle.keys.specs.Names.{is_typed, key_among, key_of, key_of_char, names}
use Rattle.keys.specs.declared.key.Key.{Key}
use Rattle.keys.specs.declared.key.Key.TheVariants as key
use Rattle.session_meaning.specs.Fields.{IsFieldCharacter, IsKeyField}
use Rattle.session_meaning.specs.ReachedLaws.{KeysAreFields}

past_space : (c : ℕ) → (nat_lt 32 c && not (c == 127)) ≡ true → 32 < c
past_space c is = grind (arith, nat_tests)

typed-field : (c : ℕ) → is_typed c ≡ true → IsFieldCharacter c
typed-field c is = let past = past_space c is in (omega (arith, past), omega (arith, past))

by_character : (c : ℕ) (k : Key) → key_of_char c ≡ Some k → IsKeyField k
by_character c k = by_tests (c == 32) (is_typed c) refl
  where
    by_tests : (space typed : Bool) → is_typed c ≡ typed → (if space then Some key.Space else (if typed then Some (key.Char c) else None)) ≡ Some k → IsKeyField k
    by_tests true typed is found =
        let same : key.Space ≡ k = cc in subst IsKeyField same tt
    by_tests false true is found =
        let same : key.Char c ≡ k = cc in subst IsKeyField same (typed-field c is)
    by_tests false false is found = cc

-- a key that one of these rows has
by_rows : (rows : List (List ℕ × Key)) (name : List ℕ) (k : Key) → AllByRecursion (λ (row : List ℕ × Key). IsKeyField row.1) rows → key_among rows name ≡ Some k → IsKeyField k
by_rows [] name k fields found = cc
by_rows (row ∷ rows) name k fields found =
    by_test (bytes_eq name row.0) (by_rows rows name k fields.1) found
  where
    by_test : (b : Bool) → (key_among rows name ≡ Some k → IsKeyField k) → (if b then Some row.1 else key_among rows name) ≡ Some k → IsKeyField k
    by_test true rest is = let same : row.1 ≡ k = cc in subst IsKeyField same fields.0
    by_test false rest is = rest is

named-fields : AllByRecursion (λ (row : List ℕ × Key). IsKeyField row.1) names
named-fields = (tt, (tt, (tt, (tt, (tt, (tt, (tt, (tt, (tt, (tt, (tt, (tt, (tt, tt)))))))))))))

pub keys-are_fields : KeysAreFields
unfolding key_of
keys-are_fields [] k found = by_rows names [] k named-fields found
keys-are_fields (c ∷ []) k found = by_character c k found
keys-are_fields (c ∷ (d ∷ name)) k found = by_rows names (c ∷ (d ∷ name)) k named-fields found
