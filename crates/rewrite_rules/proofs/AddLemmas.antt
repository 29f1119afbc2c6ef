-- What rules 2 to 6 add.
use Rattle.std.proofs.Common.{◌≡◌, refl, sym, ap, ◌∙◌, ℕ, ◌==◌, Bool, true, false, cond, inl, inr, List, [], ◌∷◌, ◌++◌, None, append-nil, append_assoc, arith}
use Rattle.std.specs.Prelude.{◌≢◌}
use Rattle.std.specs.List.{list_any}
use Rattle.std.proofs.lemmas.Bool.Decides.{nat_tests}
use Rattle.mz_base.specs.declared.lattice.Candidate.{Candidate}
use Rattle.conversion_meaning.specs.Rules.{Asked, chosen_before, is_value, put_first, rewritten, values_by, with_values}
use Rattle.conversion_meaning.proofs.Lists.{All-from_among, Among}
use Rattle.rewrite_rules.specs.Laws.{AreNew, RulesAdd}

abbrev pub added : List ℕ → Candidate
added value = record { value = value; cost = None }

-- what is added by recursion
record Grows (list made : List Candidate) : Type 0 where
  more : List Candidate
  grown : made ≡ list ++ more
  free : (candidate : Candidate) → Among candidate more → candidate.cost ≡ None
  new : AreNew list more

Grows-not : (list : List Candidate) → Grows list list
Grows-not list = record { more = []; grown = sym (append-nil list); free = λ candidate h. absurd h; new = tt }

-- one value, and then more
Grows-first : (list made : List Candidate) (value : List ℕ) → list_any (is_value value) list ≡ false → Grows (list ++ added value ∷ []) made → Grows list made
Grows-first list made value none rest =
    record { more = added value ∷ rest.more; grown = rest.grown ∙ append_assoc list (added value ∷ []) rest.more; free = free; new = (none, rest.new) }
  where
    free : (candidate : Candidate) → Among candidate (added value ∷ rest.more) → candidate.cost ≡ None
    free candidate (inl same) = sym (ap (λ (x : Candidate). x.cost) same)
    free candidate (inr h) = rest.free candidate h

Grows-values : (values : List (List ℕ)) (list : List Candidate) → Grows list (with_values list values)
Grows-values [] list = Grows-not list
Grows-values (value ∷ values) list =
    by_test (list_any (is_value value) list) refl (Grows-values values list) (Grows-values values (list ++ added value ∷ []))
  where
    by_test : (b : Bool) → list_any (is_value value) list ≡ b → Grows list (with_values list values) → Grows (list ++ added value ∷ []) (with_values (list ++ added value ∷ []) values) → Grows list (with_values (cond b list (list ++ added value ∷ [])) values)
    by_test true is stays grows = stays
    by_test false is stays grows =
        Grows-first list (with_values (list ++ added value ∷ []) values) value is grows

not_one : (rule : ℕ) → rule ≢ 1 → (rule == 1) ≡ false
not_one rule other = grind (arith, nat_tests)

pub rewritten-adds : (rule : ℕ) (ask : Asked) (list : List Candidate) → rule ≢ 1 → rewritten rule ask list ≡ with_values list (values_by rule ask list)
unfolding rewritten
rewritten-adds rule ask list other =
    ap (λ b. cond b (put_first (chosen_before ask list) list) (with_values list (values_by rule ask list))) (not_one rule other)

pub rules-add : RulesAdd
rules-add rule ask list other =
    let grows = Grows-values (values_by rule ask list) list in
    record { more = grows.more; grown = rewritten-adds rule ask list other ∙ grows.grown; free = All-from_among (λ (candidate : Candidate). candidate.cost ≡ None) grows.more grows.free; new = grows.new }
