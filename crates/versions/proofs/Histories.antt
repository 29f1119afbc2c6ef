-- What callers cite of histories and their prefixes.
use Rattle.std.proofs.Common.{◌≡◌, ℕ, ◌+◌, ◌≤◌, List, [], ◌∷◌, ◌++◌, length, Some, option_to_list, refl, sym, ap, subst, ◌∙◌, arith, append_assoc, length-append}
use Rattle.logbook.specs.Pages.{Book}
use Rattle.versions.specs.declared.history.Version.{Version}
use Rattle.versions.specs.Histories.{Prefix, latest, entries_of, installed, after_operation, Begins, IsPlace}
use Rattle.versions.proofs.Prefixes.{prefix_self, prefix_trans, prefix_more, prefix_shorter, prefix_whole}

module _ {T E : Type 0} where
  -- a history with one version more

  pub latest-snoc : (log : List (Version T E)) (version : Version T E) → latest (log ++ version ∷ []) ≡ Some version.value
  latest-snoc [] version = refl
  latest-snoc (first ∷ []) version = refl
  latest-snoc (first ∷ (next ∷ rest)) version = latest-snoc (next ∷ rest) version

  pub entries_of-append : (front back : List (Version T E)) → entries_of (front ++ back) ≡ entries_of front ++ entries_of back
  entries_of-append [] back = refl
  entries_of-append (first ∷ rest) back =
      ap (λ entries. option_to_list first.entry ++ entries) (entries_of-append rest back) ∙ sym (append_assoc (option_to_list first.entry) (entries_of rest) (entries_of back))

  pub entries_of-installed : (log : List (Version T E)) (value : T) (entry : E) → entries_of (log ++ installed value entry ∷ []) ≡ entries_of log ++ entry ∷ []
  entries_of-installed log value entry = entries_of-append log (installed value entry ∷ [])

  pub IsPlace-snoc : (n : ℕ) (log : List (Version T E)) (version : Version T E) → IsPlace n log → IsPlace (n + 1) (log ++ version ∷ [])
  IsPlace-snoc n log version at = omega (arith, length-append log (version ∷ []))

  -- entries that are those of a history, one for each operation, stay so where both get one more
  pub entries-snoc : (log : List (Version T E)) (value : T) (entry : E) (before after : List E) → before ≡ entries_of log → IsPlace (length before) log → after ≡ before ++ entry ∷ []
      → (after ≡ entries_of (log ++ installed value entry ∷ [])) × IsPlace (length after) (log ++ installed value entry ∷ [])
  entries-snoc log value entry before after are at more = (
    more ∙ (ap (λ entries. entries ++ entry ∷ []) are ∙ sym (entries_of-installed log value entry)),
    omega (arith, length-append log (installed value entry ∷ []), ap length more, length-append before (entry ∷ [])),
  )

  -- prefixes of one history

  pub Begins-self : (p : Prefix T E) → Begins p p
  Begins-self p = (refl, prefix_self p.log)

  pub Begins-same : (p q : Prefix T E) → p ≡ q → Begins p q
  Begins-same p q same = subst (λ r. Begins p r) same (Begins-self p)

  pub Begins-trans : (p q r : Prefix T E) → Begins p q → Begins q r → Begins p r
  Begins-trans p q r a b = (a.0 ∙ b.0, prefix_trans p.log q.log r.log a.1 b.1)

  -- of two prefixes of one history the shorter begins the longer
  pub Begins-shorter : (p q whole : Prefix T E) → Begins p whole → Begins q whole → length p.log ≤ length q.log → Begins p q
  Begins-shorter p q whole a b le = (a.0 ∙ sym b.0, prefix_shorter p.log q.log whole.log a.1 b.1 le)

  -- what begins a history begins it after one operation more
  pub Begins-after : (p whole : Prefix T E) (value : T) (entry : E) → Begins p whole → Begins p (after_operation whole value entry)
  Begins-after p whole value entry begins = (begins.0, prefix_trans p.log whole.log (whole.log ++ installed value entry ∷ []) begins.1 (prefix_more whole.log (installed value entry ∷ [])))

  -- a prefix that is as long as the whole is the whole
  pub Begins-whole : (p q : Prefix T E) → Begins p q → length q.log ≤ length p.log → p ≡ q
  Begins-whole p q begins le =
      let logs = prefix_whole p.log q.log begins.1 le in
      let here : Book → Prefix T E = λ registry. record { registry = registry; log = p.log } in
      let there : List (Version T E) → Prefix T E = λ log. record { registry = q.registry; log = log } in
      ap here begins.0 ∙ ap there logs
