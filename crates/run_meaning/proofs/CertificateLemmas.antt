-- Certificates by client.
use Rattle.std.proofs.Common.{◌≡◌, ◌≢◌, refl, sym, ap, ◌∙◌, ◌⊎◌, ⊎_elim, ℕ, ◌<◌, ◌==◌, ◌++◌, Bool, true, false, List, [], ◌∷◌, Option, Some, None, cond, filter, arith, append-nil, option_map, nat_le, nat_lt, ap₂}
use Rattle.std.proofs.lemmas.Bool.{cases_order, eq-eqb, eqb-true, le-leb, le-ltb, lt-leb, lt-ltb, ne_eqb, true≢false}
use Rattle.std.proofs.lemmas.List.Elements.{filter-append}
use Rattle.std.proofs.lemmas.Option.{none-some, same_Some}
use Rattle.mz_base.specs.declared.conversion.Conversion.{Conversion}
use Rattle.mz_base.specs.declared.logs.CertEntry.{CertEntry}
use Rattle.keys.specs.declared.command.Command.{Command}
use Rattle.session_meaning.specs.Stages.{Session}
use Rattle.session_meaning.specs.Steps.{converted_of, step}
use Rattle.run_meaning.specs.Deeds.{Deed, Awaits, Ends, FindsNone, Learns, Steps, Takes, certificate_entry, certificate_of, certified_by}
use Rattle.run_meaning.specs.Plays.{certificates_with, certified}
use Rattle.run_meaning.specs.States.{Client, certificates_of}

-- ---- Filters of filters

module _ {A : Type 0} (p q : A → Bool) where
  -- where all that pass p pass q
  pub filter-covers : ((x : A) → p x ≡ true → q x ≡ true) → (xs : List A) → filter p (filter q xs) ≡ filter p xs
  filter-covers within [] = refl
  filter-covers within (x ∷ xs) = by_tests (p x) (q x) refl refl (filter-covers within xs)
    where
      by_tests : (b d : Bool) → p x ≡ b → q x ≡ d → filter p (filter q xs) ≡ filter p xs → filter p (cond (q x) (x ∷ filter q xs) (filter q xs)) ≡ cond (p x) (x ∷ filter p xs) (filter p xs)
      by_tests true true is isq rest = rw isq (rw is (ap (λ ys. x ∷ ys) rest))
      by_tests true false is isq rest = absurd (true≢false (sym (within x is) ∙ isq))
      by_tests false true is isq rest = rw isq (rw is rest)
      by_tests false false is isq rest = rw isq (rw is rest)

  -- where none that passes p passes q
  pub filter-misses : ((x : A) → p x ≡ true → q x ≡ false) → (xs : List A) → filter p (filter q xs) ≡ []
  filter-misses without [] = refl
  filter-misses without (x ∷ xs) = by_tests (p x) (q x) refl refl (filter-misses without xs)
    where
      by_tests : (b d : Bool) → p x ≡ b → q x ≡ d → filter p (filter q xs) ≡ [] → filter p (cond (q x) (x ∷ filter q xs) (filter q xs)) ≡ []
      by_tests true true is isq rest = absurd (true≢false (sym isq ∙ without x is))
      by_tests true false is isq rest = rw isq rest
      by_tests false true is isq rest = rw isq (rw is rest)
      by_tests false false is isq rest = rw isq rest

-- ---- A certificate more

abbrev is_of : ℕ → CertEntry → Bool
is_of c kept = kept.client == c

module _ (entries : List CertEntry) (made : CertEntry) where
  abbrev up_to : CertEntry → Bool
  up_to kept = nat_le kept.client made.client

  abbrev past : CertEntry → Bool
  past kept = nat_lt made.client kept.client

  parted : (c : ℕ) → certificates_of c (certificates_with entries made) ≡ filter (is_of c) (filter up_to entries) ++ filter (is_of c) (made ∷ filter past entries)
  parted c = filter-append (is_of c) (filter up_to entries) (made ∷ filter past entries)

  -- the client's own come before it
  pub own-certificates : certificates_of made.client (certificates_with entries made) ≡ certificates_of made.client entries ++ made ∷ []
  own-certificates =
      let here : (made.client == made.client) ≡ true = eq-eqb made.client made.client refl in
      let before = filter-covers (is_of made.client) up_to (λ x is. le-leb x.client made.client (let same : x.client ≡ made.client = eqb-true x.client made.client is in omega (arith, same))) entries in
      let after = filter-misses (is_of made.client) past (λ x is. le-ltb made.client x.client (let same : x.client ≡ made.client = eqb-true x.client made.client is in omega (arith, same))) entries in
      parted made.client ∙ ap₂ (λ (xs ys : List CertEntry). xs ++ ys) before (rw here (ap (λ ys. made ∷ ys) after))

  -- other clients have the same
  pub other-certificates : (c : ℕ) → made.client ≢ c → certificates_of c (certificates_with entries made) ≡ certificates_of c entries
  other-certificates c apart = parted c ∙ by_order (cases_order made.client c)
    where
      not_it : (made.client == c) ≡ false
      not_it = ne_eqb made.client c apart

      below : made.client < c → filter (is_of c) (filter up_to entries) ++ filter (is_of c) (filter past entries) ≡ filter (is_of c) entries
      below less =
          let before = filter-misses (is_of c) up_to (λ x is. lt-leb x.client made.client (let same : x.client ≡ c = eqb-true x.client c is in omega (arith, same, less))) entries in
          let after = filter-covers (is_of c) past (λ x is. lt-ltb made.client x.client (let same : x.client ≡ c = eqb-true x.client c is in omega (arith, same, less))) entries in
          ap₂ (λ (xs ys : List CertEntry). xs ++ ys) before after

      above : c < made.client → filter (is_of c) (filter up_to entries) ++ filter (is_of c) (filter past entries) ≡ filter (is_of c) entries
      above less =
          let before = filter-covers (is_of c) up_to (λ x is. le-leb x.client made.client (let same : x.client ≡ c = eqb-true x.client c is in omega (arith, same, less))) entries in
          let after = filter-misses (is_of c) past (λ x is. le-ltb made.client x.client (let same : x.client ≡ c = eqb-true x.client c is in omega (arith, same, less))) entries in
          ap₂ (λ (xs ys : List CertEntry). xs ++ ys) before after ∙ append-nil (filter (is_of c) entries)

      by_order : (made.client ≡ c) ⊎ ((made.client < c) ⊎ (c < made.client)) → filter (is_of c) (filter up_to entries) ++ filter (is_of c) (made ∷ filter past entries) ≡ filter (is_of c) entries
      by_order order = rw not_it (⊎_elim (λ same. absurd (apart same)) (λ unequal. ⊎_elim below above unequal) order)

-- ---- Whose certificate a deed makes

entry-client : (c n : ℕ) (s : Session) (o : Option (List ℕ × Conversion)) (made : CertEntry) → option_map (certificate_entry c n s) o ≡ Some made → made.client ≡ c
entry-client c n s None made is = absurd (none-some made is)
entry-client c n s (Some found) made is = ap (λ (e : CertEntry). e.client) (sym (same_Some (certificate_entry c n s found) made is))

certified-client : (client : Client) (commands : List Command) (made : CertEntry) → certified_by client commands ≡ Some made → made.client ≡ client.number
certified-client client [] made is = absurd (none-some made is)
certified-client client (c ∷ rest) made is =
    let after = (step client.progress.session c client.progress.taken).session in
    entry-client client.number _ after (converted_of after) made is

pub certificate-client : (client : Client) (deed : Deed) (made : CertEntry) → certificate_of client deed ≡ Some made → made.client ≡ client.number
certificate-client client Steps made is = certified-client client client.progress.rest made is
certificate-client client Learns made is = absurd (none-some made is)
certificate-client client (Takes pinned entries) made is = absurd (none-some made is)
certificate-client client (Awaits job) made is = absurd (none-some made is)
certificate-client client (FindsNone newest) made is = absurd (none-some made is)
certificate-client client Ends made is = absurd (none-some made is)

-- so other clients keep theirs
pub certified-others : (c : ℕ) (kept : Option (List CertEntry)) (made : Option CertEntry) → ((m : CertEntry) → made ≡ Some m → m.client ≢ c) → option_map (certificates_of c) (certified kept made) ≡ option_map (certificates_of c) kept
certified-others c kept None apart = refl
certified-others c None (Some made) apart = refl
certified-others c (Some entries) (Some made) apart = ap Some (other-certificates entries made c (apart made refl))
