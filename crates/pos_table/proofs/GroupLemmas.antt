-- Groups of values by their reading: one value more.
use Rattle.std.proofs.Common.{◌≡◌, ℕ, true, false, cond, List, [], ◌∷◌, ◌++◌, Vec, Global, refl, ap, sym, ◌∙◌, inl, inr, Decides, Some, append-nil}
use Rattle.std.specs.Option.{option_map_or}
use Rattle.std.specs.Map.{lookup, KeepsOthers}
use Rattle.std.specs.Str.{bytes_eq}
use Rattle.std.proofs.lemmas.Bool.{cases_Bool}
use Rattle.std.proofs.lemmas.Bool.Decides.{same_from_decides}
use Rattle.std.proofs.lemmas.Slice.Eq.{bytes_eq-Decides}
use Rattle.mz_base.specs.Data.{is_text, values_of}
use Rattle.mz_base.specs.declared.data.ValueRow.{ValueRow}
use Rattle.pos_table.specs.Groups.{AreGroups, grouped}
use Rattle.pos_table.specs.declared.groups.Groups.{Groups}

bytes_eq-turned : (bs cs : List ℕ) → bytes_eq bs cs ≡ bytes_eq cs bs
bytes_eq-turned bs cs =
    let one = bytes_eq-Decides cs bs in
    let turned : Decides (bytes_eq cs bs) (bs ≡ cs) = (λ is. sym (one.0 is), λ same. one.1 (sym same)) in
    same_from_decides _ _ (bytes_eq-Decides bs cs) turned

bytes_eq-same : (bs cs ds : List ℕ) → bytes_eq bs cs ≡ true → bytes_eq bs ds ≡ bytes_eq cs ds
bytes_eq-same bs cs ds is = ap (λ x. bytes_eq x ds) ((bytes_eq-Decides bs cs).0 is)

-- a text that is not this one is under no key of this one
keys_apart : (bs cs ks : List ℕ) → bytes_eq bs cs ≡ false → bytes_eq bs ks ≡ true → bytes_eq cs ks ≡ false
keys_apart bs cs ks other is = bytes_eq-turned cs ks ∙ sym (bytes_eq-same bs ks cs is) ∙ other

module _ {X : Type 0} where
  -- what stands under other keys stays
  pub lookup-other : (key : Vec ℕ Global) (text : List ℕ) (old new : List (Vec ℕ Global × X)) → KeepsOthers (λ (x y : Vec ℕ Global). bytes_eq x.items y.items) (λ (y : Vec ℕ Global). bytes_eq key.items y.items) old new → bytes_eq text key.items ≡ false → lookup (λ (k : Vec ℕ Global). bytes_eq text k.items) new ≡ lookup (λ (k : Vec ℕ Global). bytes_eq text k.items) old
  unfolding KeepsOthers
  lookup-other key text old new keeps other =
      keeps (λ k. bytes_eq text k.items) (λ x y is. bytes_eq-same text x.items y.items is) (λ k is. keys_apart key.items text k.items (bytes_eq-turned key.items text ∙ other) is)

  -- a text that is this one finds what its key finds
  pub lookup-same : (key : Vec ℕ Global) (text : List ℕ) (es : List (Vec ℕ Global × X)) → bytes_eq text key.items ≡ true → lookup (λ (k : Vec ℕ Global). bytes_eq text k.items) es ≡ lookup (λ (k : Vec ℕ Global). bytes_eq key.items k.items) es
  lookup-same key text es is =
      ap (λ bs. lookup (λ (k : Vec ℕ Global). bytes_eq bs k.items) es) ((bytes_eq-Decides text key.items).0 is)

values_of-push : (rows : List ValueRow) (row : ValueRow) (reading : List ℕ) → values_of (rows ++ row ∷ []) reading ≡ values_of rows reading ++ cond (bytes_eq reading row.reading) (row.value ∷ []) []
unfolding values_of
values_of-push [] row reading =
    elim (cases_Bool (bytes_eq reading row.reading)) [
      | inl is ↦ rw (is, (bytes_eq-turned row.reading reading ∙ is)) refl
      | inr other ↦ rw (other, (bytes_eq-turned row.reading reading ∙ other)) refl
    ]
values_of-push (first ∷ rows) row reading =
    elim (cases_Bool (is_text reading first.reading)) [
      | inl is ↦ rw is (ap (λ values. first.value ∷ values) (values_of-push rows row reading))
      | inr other ↦ rw other (values_of-push rows row reading)
    ]

-- one row more
pub AreGroups-push : (groups new : Groups) (rows : List ValueRow) (row : ValueRow) (reading value : List ℕ) → AreGroups groups rows → reading ≡ row.reading → value ≡ row.value → ((text : List ℕ) → grouped new text ≡ grouped groups text ++ cond (bytes_eq text reading) (value ∷ []) []) → AreGroups new (rows ++ row ∷ [])
AreGroups-push groups new rows row reading value are same_reading same_value added text =
    added text
    ∙ ap (λ values. values ++ cond (bytes_eq text reading) (value ∷ []) []) (are text)
    ∙ rw (same_reading, same_value) (sym (values_of-push rows row text))

-- the values of a reading are taken out and put back with one more
pub lookup-added : (key : Vec ℕ Global) (text : List ℕ) (old between new : List (Vec ℕ Global × Vec (List ℕ) Global)) (more : Vec (List ℕ) Global) (value : List ℕ) → KeepsOthers (λ (x y : Vec ℕ Global). bytes_eq x.items y.items) (λ (y : Vec ℕ Global). bytes_eq key.items y.items) old between → KeepsOthers (λ (x y : Vec ℕ Global). bytes_eq x.items y.items) (λ (y : Vec ℕ Global). bytes_eq key.items y.items) between new → lookup (λ (k : Vec ℕ Global). bytes_eq key.items k.items) new ≡ Some more → more.items ≡ option_map_or (λ (values : Vec (List ℕ) Global). values.items) (lookup (λ (k : Vec ℕ Global). bytes_eq key.items k.items) old) [] ++ value ∷ [] → option_map_or (λ (values : Vec (List ℕ) Global). values.items) (lookup (λ (k : Vec ℕ Global). bytes_eq text k.items) new) [] ≡ option_map_or (λ (values : Vec (List ℕ) Global). values.items) (lookup (λ (k : Vec ℕ Global). bytes_eq text k.items) old) [] ++ cond (bytes_eq text key.items) (value ∷ []) []
lookup-added key text old between new more value removed inserted found added =
    elim (cases_Bool (bytes_eq text key.items)) [
      | inl is ↦ rw (is, lookup-same key text new is, lookup-same key text old is, found) added
      | inr other ↦ rw (other, lookup-other key text between new inserted other, lookup-other key text old between removed other) (sym (append-nil _))
    ]
