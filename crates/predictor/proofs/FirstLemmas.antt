-- Of items that are alike the first: what further items add.
use Rattle.std.proofs.Common.{◌≡◌, refl, sym, ap, ◌∙◌, ℕ, ◌≤◌, Bool, true, false, cond, List, [], ◌∷◌, ◌++◌, length, take, inl, inr}
use Rattle.std.specs.Prelude.{◌&&◌, filter}
use Rattle.std.specs.List.{list_all}
use Rattle.std.proofs.lemmas.Bool.{cases_Bool}
use Rattle.std.proofs.lemmas.List.{take-append-le}
use Rattle.std.proofs.lemmas.List.Elements.{filter-append}
use Rattle.conversion_meaning.specs.Firsts.{firsts}

module _ {A : Type 0} (differs : A → A → Bool) where
  -- all of these differ from an item
  abbrev pub all_differ : List A → A → Bool
  all_differ items item = list_all (λ other. differs other item) items

  -- what is first for a longer list, behind the first of a front
  later : List A → List A → List A
  unfolding firsts
  later [] more = firsts differs more
  later (item ∷ items) more = filter (differs item) (later items more)

  firsts-append : (items more : List A) → firsts differs (items ++ more) ≡ firsts differs items ++ later items more
  unfolding firsts later
  firsts-append [] more = refl
  firsts-append (item ∷ items) more =
      ap (λ rest. item ∷ filter (differs item) rest) (firsts-append items more) ∙ ap (λ rest. item ∷ rest) (filter-append (differs item) (firsts differs items) (later items more))

  -- where the first items of a front are enough, what follows adds none
  pub firsts-enough : (n : ℕ) (items more : List A) → n ≤ length (firsts differs items) → take n (firsts differs (items ++ more)) ≡ take n (firsts differs items)
  firsts-enough n items more enough =
      ap (λ all. take n all) (firsts-append items more) ∙ take-append-le n (firsts differs items) (later items more) enough

  filter-one : (first item : A) (b : Bool) → filter (differs first) (cond b (item ∷ []) []) ≡ cond (differs first item && b) (item ∷ []) []
  filter-one first item true =
      elim (differs first item) as (λ d. cond d (item ∷ []) [] ≡ cond (d && true) (item ∷ []) []) [ true ↦ refl | false ↦ refl ]
  filter-one first item false =
      elim (differs first item) as (λ d. [] ≡ cond (d && false) (item ∷ []) []) [ true ↦ refl | false ↦ refl ]

  -- a further item is a first where all before it differ
  firsts-push_all : (items : List A) (item : A) → firsts differs (items ++ item ∷ []) ≡ firsts differs items ++ cond (all_differ items item) (item ∷ []) []
  unfolding firsts
  firsts-push_all [] item = refl
  firsts-push_all (first ∷ items) item =
      ap (λ rest. first ∷ filter (differs first) rest) (firsts-push_all items item)
      ∙ (ap (λ rest. first ∷ rest) (filter-append (differs first) (firsts differs items) (cond (all_differ items item) (item ∷ []) []))
      ∙ ap (λ rest. first ∷ (filter (differs first) (firsts differs items) ++ rest)) (filter-one first item (all_differ items item)))

  module _ (alike : (first other item : A) → differs first other ≡ false → differs first item ≡ true → differs other item ≡ true) where
    -- those that are left out differ where the first one does
    all-filter : (first item : A) (items : List A) → differs first item ≡ true → all_differ (filter (differs first) items) item ≡ all_differ items item
    all-filter first item [] apart = refl
    all-filter first item (other ∷ items) apart =
        elim (cases_Bool (differs first other)) [
          | inl is ↦ rw is (ap (λ b. differs other item && b) (all-filter first item items apart))
          | inr not ↦ rw not (all-filter first item items apart ∙ sym (ap (λ b. b && all_differ items item) (alike first other item not apart)))
        ]

    both : (b : Bool) (kept all rest : Bool) → (b ≡ true → kept ≡ all) → all ≡ rest → (b && kept) ≡ (b && rest)
    both true kept all rest same is = same refl ∙ is
    both false kept all rest same is = refl

    pub all-firsts : (items : List A) (item : A) → all_differ (firsts differs items) item ≡ all_differ items item
    unfolding firsts
    all-firsts [] item = refl
    all-firsts (first ∷ items) item =
        both (differs first item) (all_differ (filter (differs first) (firsts differs items)) item) (all_differ (firsts differs items) item) (all_differ items item) (λ apart. all-filter first item (firsts differs items) apart) (all-firsts items item)

    -- a further item is a first where all first ones differ
    pub firsts-push : (items : List A) (item : A) → firsts differs (items ++ item ∷ []) ≡ firsts differs items ++ cond (all_differ (firsts differs items) item) (item ∷ []) []
    firsts-push items item =
        firsts-push_all items item ∙ ap (λ b. firsts differs items ++ cond b (item ∷ []) []) (sym (all-firsts items item))
