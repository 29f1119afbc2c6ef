-- What a user keeps beside its journal, when the journal grows.
use Rattle.std.proofs.Common.{◌≡◌, refl, sym, ap, subst, ◌∙◌, ⊎_elim, ℕ, zero, suc, ◌+◌, ◌-◌, ◌<◌, ◌≤◌, ◌==◌, Bool, true, false, List, [], ◌∷◌, ◌++◌, arith, get_or-set_other, get_or-set_same, length, length-append, length-set, map, nat_lt, slice_index_or, slice_set, take}
use Rattle.std.proofs.lemmas.Bool.{cases_eq, eq-eqb, ltb-false, ltb-true, ne_eqb}
use Rattle.std.proofs.lemmas.List.{get_or_default, map-append, take-append-le}
use Rattle.std.proofs.lemmas.List.Elements.{All-push}
use Rattle.std.proofs.Math.ListN.{get_or-eq_default}
use Rattle.std.specs.Prelude.{◌&&◌, ◌||◌, All}
use Rattle.std.specs.List.{list_all, range_with_len}
use Rattle.std.specs.Vec.{with_item}
use Rattle.mz_base.specs.declared.lattice.Pair.{Pair}
use Rattle.mz_base.specs.declared.logs.UserEntry.{UserEntry}
use Rattle.mz_base.specs.declared.logs.UserEntry.TheVariants as entry
use Rattle.run_meaning.specs.Numbers.{at_number, numbers}
use Rattle.run_meaning.specs.Users.{enters, history_of, is_entered, reload_in_force}
use Rattle.run_meaning.proofs.LogLemmas.{any-push, or-false, or-true}
use Rattle.run_meaning.specs.Worlds.{UserPlan}
use Rattle.core_steps.specs.Standings.{AreFirst, IsCaught, IsFirst}
use Rattle.core_steps.specs.declared.standing.Standing.{Standing}

-- ---- An entry comes into the journal

-- the entries that are in it stay the first ones
first_stay : (journal : List UserEntry) (e : UserEntry) (upto : ℕ) → upto ≤ length journal → take upto (journal ++ e ∷ []) ≡ take upto journal
first_stay journal e upto few = take-append-le upto journal (e ∷ []) few

-- one that is no reload
other_entry : (journal : List UserEntry) (s : Standing) (e : UserEntry) → ((reload : ℕ) → enters reload e ≡ false) → IsCaught journal s → IsCaught (journal ++ e ∷ []) s
other_entry journal s e none caught =
    let same = first_stay journal e s.upto caught.few in
    let more : length (journal ++ e ∷ []) ≡ length journal + 1 = length-append journal (e ∷ []) in
    let few = caught.few in
    record {
      few = omega (arith, few, more);
      history = caught.history ∙ ap history_of (sym same);
      shared = caught.shared;
      in_force = caught.in_force ∙ ap (reload_in_force s.plan.reloads) (sym same);
      nothing = caught.nothing;
      reloads = caught.reloads;
      entered = λ reload. caught.entered reload ∙ sym (any-push (enters reload) journal e ∙ ap (λ b. is_entered journal reload || b) (none reload) ∙ or-false (is_entered journal reload));
    }

-- a learn
pub learn_entry : (journal : List UserEntry) (s : Standing) (client seq : ℕ) (pairs : List Pair) → IsCaught journal s → IsCaught (journal ++ entry.Learn client seq pairs ∷ []) s
learn_entry journal s client seq pairs caught = other_entry journal s (entry.Learn client seq pairs) (λ reload. refl) caught

-- the end of a client
pub end_entry : (journal : List UserEntry) (s : Standing) (client count : ℕ) → IsCaught journal s → IsCaught (journal ++ entry.End client count ∷ []) s
end_entry journal s client count caught = other_entry journal s (entry.End client count) (λ reload. refl) caught

-- a reload is noted at its place
noted : (items : List Bool) (place : ℕ) → place < length items → (reload : ℕ) → at_number false (slice_set items place true) reload ≡ (at_number false items reload || (suc place == reload))
noted items place there zero = sym (ne_eqb (suc place) zero (λ is. absurd (omega (arith, is))))
noted items place there (suc other) = ⊎_elim here elsewhere (cases_eq place other)
  where
    here : place ≡ other → slice_index_or (slice_set items place true) other false ≡ (slice_index_or items other false || (suc place == suc other))
    here same =
        ap (λ at. slice_index_or (slice_set items place true) at false) (sym same) ∙ get_or-set_same items place true false there ∙ sym (ap (λ b. slice_index_or items other false || b) (eq-eqb (suc place) (suc other) (ap suc same)) ∙ or-true (slice_index_or items other false))

    elsewhere : (place ≡ other → ⊥) → slice_index_or (slice_set items place true) other false ≡ (slice_index_or items other false || (suc place == suc other))
    elsewhere apart =
        get_or-set_other items place other true false (λ same. apart (sym same)) ∙ sym (ap (λ b. slice_index_or items other false || b) (ne_eqb (suc place) (suc other) (λ same. apart (omega (arith, same)))) ∙ or-false (slice_index_or items other false))

-- a reload, at its place
dict_at : (journal : List UserEntry) (s : Standing) (reload place : ℕ) → suc place ≡ reload → place < length s.entered.items → IsCaught journal s → IsCaught (journal ++ entry.Dict reload ∷ []) (record s { entered = with_item s.entered place true })
dict_at journal s reload place at there caught =
    let e : UserEntry = entry.Dict reload in
    let same = first_stay journal e s.upto caught.few in
    let more : length (journal ++ e ∷ []) ≡ length journal + 1 = length-append journal (e ∷ []) in
    let few = caught.few in
    record {
      few = omega (arith, few, more);
      history = caught.history ∙ ap history_of (sym same);
      shared = caught.shared;
      in_force = caught.in_force ∙ ap (reload_in_force s.plan.reloads) (sym same);
      nothing = caught.nothing;
      reloads = length-set s.entered.items place true ∙ caught.reloads;
      entered = λ other. noted s.entered.items place there other ∙ ap (λ b. b || (suc place == other)) (caught.entered other) ∙ ap (λ n. is_entered journal other || (n == other)) at ∙ sym (any-push (enters other) journal e);
    }

-- a reload
pub dict_entry : (journal : List UserEntry) (s : Standing) (reload : ℕ) → 0 < reload → reload ≤ length s.entered.items → IsCaught journal s → IsCaught (journal ++ entry.Dict reload ∷ []) (record s { entered = with_item s.entered (reload - 1) true })
dict_entry journal s reload from to caught =
    dict_at journal s reload (reload - 1) (omega (arith, from)) (omega (arith, from, to)) caught

-- ---- Whether a reload came

-- what stands at a number stands at the place before it
at_place : (items : List Bool) (number place : ℕ) → 1 ≤ number → place ≡ number - 1 → at_number false items number ≡ slice_index_or items place false
at_place items zero place from is = absurd (omega (arith, from))
at_place items (suc before) place from is =
    let same : before ≡ place = omega (arith, is) in
    ap (λ k. slice_index_or items k false) same

module _ (journal : List UserEntry) (s : Standing) (caught : IsCaught journal s) where
  -- what is read at the place of a reload tells
  pub told : (items : List Bool) (reload place : ℕ) (x : Bool) → items ≡ s.entered.items → 1 ≤ reload → place ≡ reload - 1 → true ≡ nat_lt place (length items) → x ≡ slice_index_or items place x → x ≡ is_entered journal reload
  told items reload place x same from is within read =
      read ∙ get_or_default items place x false (ltb-true place (length items) (sym within)) ∙ sym (at_place items reload place from is) ∙ ap (λ bs. at_number false bs reload) same ∙ caught.entered reload

  -- a place that is too far tells as well
  pub told_none : (items : List Bool) (reload place : ℕ) → items ≡ s.entered.items → 1 ≤ reload → place ≡ reload - 1 → false ≡ nat_lt place (length items) → false ≡ is_entered journal reload
  told_none items reload place same from is beyond =
      sym (get_or-eq_default items false (ltb-false place (length items) (sym beyond))) ∙ sym (at_place items reload place from is) ∙ ap (λ bs. at_number false bs reload) same ∙ caught.entered reload

  -- no reload has the number 0
  pub told_zero : (reload : ℕ) → (1 ≤ reload → ⊥) → false ≡ is_entered journal reload
  told_zero zero none = caught.entered zero
  told_zero (suc before) none = absurd (none (omega arith))

-- what is told at each number is told of all
all_told : (p : ℕ → Bool) (items : List Bool) (from : ℕ) → ((k : ℕ) → slice_index_or items k false ≡ p (from + k)) → list_all (λ b. b) items ≡ list_all p (range_with_len from (length items))
all_told p [] from each = refl
all_told p (b ∷ items) from each =
    let first : b ≡ p from = each zero ∙ ap p (omega arith) in
    let rest = all_told p items (from + 1) (λ k. each (suc k) ∙ ap p (omega arith)) in
    ap (λ x. x && list_all (λ b. b) items) first ∙ ap (λ all. p from && all) rest

-- whether all reloads came
pub all_entered : (journal : List UserEntry) (s : Standing) → IsCaught journal s → list_all (λ b. b) s.entered.items ≡ list_all (is_entered journal) (numbers (length s.plan.reloads))
all_entered journal s caught =
    all_told (is_entered journal) s.entered.items 1 (λ k. caught.entered (suc k) ∙ ap (is_entered journal) (omega arith)) ∙ ap (λ n. list_all (is_entered journal) (numbers n)) caught.reloads

-- ---- Users with empty journals

pub first_none : (users : List Standing) → users ≡ [] → AreFirst [] users
first_none users none =
    record { plans = sym (ap (map (λ (user : Standing). user.plan)) none); caught = subst (All (IsCaught [])) (sym none) (λ k d less. absurd (omega (arith, less))) }

-- one user more
pub first_more : (given : List UserPlan) (users : List Standing) (plan : UserPlan) (made : Standing) → AreFirst given users → IsFirst plan made → AreFirst (given ++ plan ∷ []) (users ++ made ∷ [])
first_more given users plan made before first =
    record {
      plans = ap (λ plans. plans ++ plan ∷ []) before.plans ∙ ap (λ last. map (λ (user : Standing). user.plan) users ++ last ∷ []) (sym first.plan) ∙ sym (map-append (λ (user : Standing). user.plan) users (made ∷ []));
      caught = All-push (IsCaught []) users made before.caught first.caught;
    }
