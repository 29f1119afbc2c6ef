-- What the job log has.
use Rattle.std.proofs.Common.{◌≡◌, refl, sym, ap, subst, ◌∙◌, inl, inr, ◌⊎◌, ⊎_elim, ℕ, zero, suc, ◌+◌, ◌<◌, ◌≤◌, ◌==◌, Bool, true, false, cond, List, [], ◌∷◌, ◌++◌, None, Result, Ok, Err, arith, append-nil, count_by}
use Rattle.std.specs.Prelude.{◌||◌, All, AllPairs, IsOk, is_ok, nat_lt}
use Rattle.std.specs.List.{cons_option, list_any}
use Rattle.std.proofs.lemmas.Bool.{cases_eq, cases_lt, eq-eqb, eqb-true, false≢true, lt-ltb, ltb-true, or_cases, true≢false}
use Rattle.std.proofs.lemmas.List.Elements.{filter_map-append}
use Rattle.std.proofs.lemmas.List.Folds.{list_any-append}
use Rattle.std.proofs.lemmas.List.Quantifiers.{all_pairs_push}
use Rattle.std.proofs.lemmas.List.Sums.{fold-append, sum_by-append}
use Rattle.mz_base.specs.Data.{DataLists}
use Rattle.mz_base.specs.declared.logs.JobEntry.{JobEntry}
use Rattle.mz_base.specs.declared.logs.JobEntry.TheVariants as entry
use Rattle.mz_base.specs.declared.status.BadSet.{BadSet}
use Rattle.run_meaning.specs.Jobs.{entry_after, is_logged, is_passed, is_published, job_of, newer, newest, publishes}
use Rattle.run_meaning.specs.LogLaws.{published_by, published_in, times_logged}
use Rattle.run_meaning.specs.Worlds.{World, job_at}

-- ---- Tests of lists

pub or-false : (b : Bool) → (b || false) ≡ b
or-false true = refl
or-false false = refl

pub or-true : (b : Bool) → (b || true) ≡ true
or-true true = refl
or-true false = refl

module _ {A : Type 0} (p : A → Bool) where
  -- one more at the end
  pub any-push : (xs : List A) (x : A) → list_any p (xs ++ x ∷ []) ≡ (list_any p xs || p x)
  any-push xs x = list_any-append p xs (x ∷ []) ∙ ap (λ b. list_any p xs || b) (or-false (p x))

  pub count-push : (xs : List A) (x : A) → count_by p (xs ++ x ∷ []) ≡ count_by p xs + cond (p x) 1 0
  count-push xs x =
      let parts : count_by p (xs ++ x ∷ []) ≡ count_by p xs + count_by p (x ∷ []) = sum_by-append (λ y. cond (p y) 1 0) xs (x ∷ []) in
      let one : count_by p (x ∷ []) ≡ 0 + cond (p x) 1 0 = refl in
      omega (arith, parts, one)

  -- or at the front
  pub count-cons : (x : A) (xs : List A) → count_by p (x ∷ xs) ≡ cond (p x) 1 0 + count_by p xs
  count-cons x xs =
      let parts : count_by p (x ∷ xs) ≡ count_by p (x ∷ []) + count_by p xs = sum_by-append (λ y. cond (p y) 1 0) (x ∷ []) xs in
      let one : count_by p (x ∷ []) ≡ 0 + cond (p x) 1 0 = refl in
      omega (arith, parts, one)

  -- none passes
  pub count-none : (xs : List A) → list_any p xs ≡ false → count_by p xs ≡ 0
  count-none [] none = refl
  count-none (x ∷ xs) none = count-cons x xs ∙ by_test (p x) refl (count-none xs)
    where
      by_test : (b : Bool) → p x ≡ b → (list_any p xs ≡ false → count_by p xs ≡ 0) → cond (p x) 1 0 + count_by p xs ≡ 0
      by_test true is rest = absurd (true≢false (sym (ap (λ b. b || list_any p xs) is) ∙ none))
      by_test false is rest =
          let zero_more = rest (sym (ap (λ b. b || list_any p xs) is) ∙ none) in
          rw is (omega (arith, zero_more))

  -- some does
  pub count-some : (xs : List A) → list_any p xs ≡ true → 1 ≤ count_by p xs
  count-some [] some = absurd (false≢true some)
  count-some (x ∷ xs) some = subst (λ n. 1 ≤ n) (sym (count-cons x xs)) (by_test (p x) refl (count-some xs))
    where
      by_test : (b : Bool) → p x ≡ b → (list_any p xs ≡ true → 1 ≤ count_by p xs) → 1 ≤ cond (p x) 1 0 + count_by p xs
      by_test true is rest = rw is (omega arith)
      by_test false is rest =
          let more = rest (sym (ap (λ b. b || list_any p xs) is) ∙ some) in
          rw is (omega (arith, more))

  -- one that passes comes where none did
  pub count-once : (xs : List A) (x : A) → count_by p xs ≤ 1 → (p x ≡ true → list_any p xs ≡ false) → count_by p (xs ++ x ∷ []) ≤ 1
  count-once xs x few fresh = by_test (p x) refl
    where
      by_test : (b : Bool) → p x ≡ b → count_by p (xs ++ x ∷ []) ≤ 1
      by_test true is =
          let more : count_by p (xs ++ x ∷ []) ≡ count_by p xs + 1 = count-push xs x ∙ ap (λ b. count_by p xs + cond b 1 0) is in
          let none = count-none xs (fresh is) in
          omega (arith, more, none)
      by_test false is =
          let more : count_by p (xs ++ x ∷ []) ≡ count_by p xs + 0 = count-push xs x ∙ ap (λ b. count_by p xs + cond b 1 0) is in
          omega (arith, more, few)

-- ---- One entry more

pub newest-push : (log : List JobEntry) (e : JobEntry) → newest (log ++ e ∷ []) ≡ newer (newest log) e
newest-push log e = fold-append newer 0 log (e ∷ [])

pub published-push : (log : List JobEntry) (e : JobEntry) (job : ℕ) → is_published (log ++ e ∷ []) job ≡ (is_published log job || publishes job e)
published-push log e job = any-push (publishes job) log e

pub logged-push : (log : List JobEntry) (e : JobEntry) (job : ℕ) → is_logged (log ++ e ∷ []) job ≡ (is_logged log job || (job_of e == job))
logged-push log e job = any-push (λ x. job_of x == job) log e

-- ---- What stands published

-- it is logged
pub published-logged : (log : List JobEntry) (job : ℕ) → is_published log job ≡ true → is_logged log job ≡ true
published-logged [] job is = absurd (false≢true is)
published-logged (entry.Published other ∷ log) job is =
    ⊎_elim (λ here. ap (λ b. b || is_logged log job) here) (λ there. ap (λ b. (other == job) || b) (published-logged log job there) ∙ or-true (other == job)) (or_cases (other == job) (is_published log job) is)
published-logged (entry.Refused other path fault ∷ log) job is =
    ap (λ b. (other == job) || b) (published-logged log job is) ∙ or-true (other == job)
published-logged (entry.Skipped other by ∷ log) job is =
    ap (λ b. (other == job) || b) (published-logged log job is) ∙ or-true (other == job)

-- a higher one passes a job
pub published-passes : (log : List JobEntry) (job other : ℕ) → is_published log other ≡ true → job < other → is_passed log job ≡ true
published-passes [] job other is less = absurd (false≢true is)
published-passes (entry.Published first ∷ log) job other is less =
    ⊎_elim (λ here. let same : first ≡ other = eqb-true first other here in let above : job < first = omega (arith, less, same) in ap (λ b. b || is_passed log job) (lt-ltb job first above)) (λ there. ap (λ b. nat_lt job first || b) (published-passes log job other there less) ∙ or-true (nat_lt job first)) (or_cases (first == other) (is_published log other) is)
published-passes (entry.Refused first path fault ∷ log) job other is less = published-passes log job other is less
published-passes (entry.Skipped first by ∷ log) job other is less = published-passes log job other is less

-- and what passes it is a higher one
pub passed-by : (log : List JobEntry) (job : ℕ) → is_passed log job ≡ true → (other : ℕ) × (is_published log other ≡ true) × (job < other)
passed-by [] job is = absurd (false≢true is)
passed-by (entry.Published first ∷ log) job is =
    ⊎_elim (λ here. (first, ap (λ b. b || is_published log first) (eq-eqb first first refl), ltb-true job first here)) (λ there. let found = passed-by log job there in (found.0, ap (λ b. (first == found.0) || b) found.1 ∙ or-true (first == found.0), found.2)) (or_cases (nat_lt job first) (is_passed log job) is)
passed-by (entry.Refused first path fault ∷ log) job is = passed-by log job is
passed-by (entry.Skipped first by ∷ log) job is = passed-by log job is

-- what holds of each published job holds of all in their list
pub all-published : (P : ℕ → Type 0) (log : List JobEntry) → ((job : ℕ) → is_published log job ≡ true → P job) → All P (published_in log)
all-published P [] each k d less = absurd (omega (arith, less))
all-published P (entry.Published other ∷ log) each zero d less = each other (ap (λ b. b || is_published log other) (eq-eqb other other refl))
all-published P (entry.Published other ∷ log) each (suc k) d less =
    all-published P log (λ job is. each job (ap (λ b. (other == job) || b) is ∙ or-true (other == job))) k d (omega (arith, less))
all-published P (entry.Refused other path fault ∷ log) each k d less = all-published P log each k d less
all-published P (entry.Skipped other by ∷ log) each k d less = all-published P log each k d less

-- ---- A log that legal jobs make

pub record IsSoundLog (world : World) (log : List JobEntry) : Type 0 where
  pub rise : AllPairs ◌<◌ (published_in log)
  pub bounded : (job : ℕ) → is_published log job ≡ true → job ≤ newest log
  pub reads : (job : ℕ) → is_published log job ≡ true → IsOk (job_at world job)
  pub highest : (job : ℕ) → is_logged log job ≡ true → IsOk (job_at world job) → job ≤ newest log
  pub stands : (newest log ≡ 0) ⊎ (is_published log (newest log) ≡ true)
  pub once : (job : ℕ) → times_logged log job ≤ 1

module _ (world : World) (log : List JobEntry) (job : ℕ) (sound : IsSoundLog world log) (fresh : is_logged log job ≡ false) where
  once-push : (e : JobEntry) → job_of e ≡ job → (other : ℕ) → times_logged (log ++ e ∷ []) other ≤ 1
  once-push e is other =
      count-once (λ x. job_of x == other) log e (sound.once other) (λ here. let same : job ≡ other = sym is ∙ eqb-true (job_of e) other here in subst (λ n. is_logged log n ≡ false) same fresh)

  -- an entry that publishes nothing
  quiet-push : (e : JobEntry) → job_of e ≡ job → published_by e ≡ None → ((n : ℕ) → publishes n e ≡ false) → newer (newest log) e ≡ newest log → (IsOk (job_at world job) → job ≤ newest log) → IsSoundLog world (log ++ e ∷ [])
  quiet-push e is none silent same low =
      let kept : newest (log ++ e ∷ []) ≡ newest log = newest-push log e ∙ same in
      let published : (n : ℕ) → is_published (log ++ e ∷ []) n ≡ is_published log n = λ n. published-push log e n ∙ ap (λ b. is_published log n || b) (silent n) ∙ or-false (is_published log n) in
      let list : published_in (log ++ e ∷ []) ≡ published_in log = filter_map-append published_by log (e ∷ []) ∙ ap (λ o. published_in log ++ cons_option o []) none ∙ append-nil (published_in log) in
      record {
        rise = subst (λ xs. AllPairs ◌<◌ xs) (sym list) sound.rise;
        bounded = λ n stands. subst (λ m. n ≤ m) (sym kept) (sound.bounded n (sym (published n) ∙ stands));
        reads = λ n stands. sound.reads n (sym (published n) ∙ stands);
        highest = λ n here reads. subst (λ m. n ≤ m) (sym kept) (⊎_elim (λ before. sound.highest n before reads) (λ now. let at : job ≡ n = sym is ∙ eqb-true (job_of e) n now in subst (λ m. m ≤ newest log) at (low (subst (λ m. IsOk (job_at world m)) (sym at) reads))) (or_cases (is_logged log n) (job_of e == n) (sym (logged-push log e n) ∙ here)));
        stands = ⊎_elim (λ zero_yet. inl (kept ∙ zero_yet)) (λ stands. inr (ap (is_published (log ++ e ∷ [])) kept ∙ published (newest log) ∙ stands)) sound.stands;
        once = once-push e is;
      }

  -- all published before are lower, where none passes the job
  lower : is_passed log job ≡ false → (n : ℕ) → is_published log n ≡ true → n < job
  lower free n stands =
      let not_above : job < n → ⊥ = λ above. true≢false (sym (published-passes log job n stands above) ∙ free) in
      let not_same : n ≡ job → ⊥ = λ same. true≢false (sym (published-logged log n stands) ∙ ap (is_logged log) same ∙ fresh) in
      ⊎_elim (λ less. less) (λ least. absurd (⊎_elim (λ same. not_same (sym same)) (λ apart. not_above (omega (arith, least, apart))) (cases_eq job n))) (cases_lt n job)

  loud-push : IsOk (job_at world job) → is_passed log job ≡ false → IsSoundLog world (log ++ entry.Published job ∷ [])
  loud-push reads free =
      let e : JobEntry = entry.Published job in
      let kept : newest (log ++ e ∷ []) ≡ job = newest-push log e in
      let below = lower free in
      let newest_low : newest log ≤ job = ⊎_elim (λ zero_yet. omega (arith, zero_yet)) (λ stands. let less = below (newest log) stands in omega (arith, less)) sound.stands in
      record {
        rise = subst (λ xs. AllPairs ◌<◌ xs) (sym (filter_map-append published_by log (e ∷ []))) (all_pairs_push ◌<◌ (published_in log) job sound.rise (all-published (λ n. n < job) log below));
        bounded = λ n stands. subst (λ m. n ≤ m) (sym kept) (⊎_elim (λ before. let less = below n before in omega (arith, less)) (λ now. let at : job ≡ n = eqb-true job n now in omega (arith, at)) (or_cases (is_published log n) (job == n) (sym (published-push log e n) ∙ stands)));
        reads = λ n stands. ⊎_elim (λ before. sound.reads n before) (λ now. subst (λ m. IsOk (job_at world m)) (eqb-true job n now) reads) (or_cases (is_published log n) (job == n) (sym (published-push log e n) ∙ stands));
        highest = λ n here sound_job. subst (λ m. n ≤ m) (sym kept) (⊎_elim (λ before. let low = sound.highest n before sound_job in omega (arith, low, newest_low)) (λ now. let at : job ≡ n = eqb-true job n now in omega (arith, at)) (or_cases (is_logged log n) (job == n) (sym (logged-push log e n) ∙ here)));
        stands = inr (ap (is_published (log ++ e ∷ [])) kept ∙ published-push log e job ∙ ap (λ b. is_published log job || b) (eq-eqb job job refl) ∙ or-true (is_published log job));
        once = once-push e refl;
      }

  pub sound-push : (o : Result DataLists BadSet) → job_at world job ≡ o → IsSoundLog world (log ++ entry_after log job o ∷ [])
  sound-push (Err bad) is =
      quiet-push (entry.Refused job bad.path bad.fault) refl refl (λ n. refl) refl (λ reads. absurd (false≢true (sym (ap is_ok is) ∙ reads)))
  sound-push (Ok lists) is = by_test (is_passed log job) refl
    where
      by_test : (b : Bool) → is_passed log job ≡ b → IsSoundLog world (log ++ cond b (entry.Skipped job (newest log)) (entry.Published job) ∷ [])
      by_test true passed =
          quiet-push (entry.Skipped job (newest log)) refl refl (λ n. refl) refl (λ reads. let found = passed-by log job passed in let high = sound.bounded found.0 found.1 in let less = found.2 in omega (arith, high, less))
      by_test false free = loud-push (ap is_ok is) free

pub sound-start : (world : World) → IsSoundLog world []
sound-start world =
    record {
      rise = λ i j d less inside. absurd (omega (arith, inside));
      bounded = λ job is. absurd (false≢true is);
      reads = λ job is. absurd (false≢true is);
      highest = λ job is reads. absurd (false≢true is);
      stands = inl refl;
      once = λ job. let none : 0 ≤ 1 = omega arith in none;
    }
