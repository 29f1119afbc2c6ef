-- The board of a job log that gets an entry, and of one where each job came.
use Rattle.std.proofs.Common.{◌≡◌, ◌≢◌, refl, sym, ap, subst, ◌∙◌, ⊎_elim, ℕ, zero, suc, ◌+◌, ◌-◌, ◌*◌, ◌<◌, ◌≤◌, Bool, true, false, cond, not, List, [], ◌∷◌, ◌++◌, length, get_or, set, replicate, arith, count_by, length-set}
use Rattle.std.specs.Prelude.{◌&&◌, ◌||◌, nat_eq}
use Rattle.std.specs.List.{list_all, range_with_len}
use Rattle.std.proofs.lemmas.Bool.{cases_eq, cases_lt, eq-eqb, ne_eqb, true≢false}
use Rattle.std.proofs.lemmas.List.{get_or-replicate, get_or_past, length-replicate}
use Rattle.std.proofs.lemmas.List.Folds.{sum_by-replicate}
use Rattle.std.proofs.lemmas.List.Sums.{sum_by-set}
use Rattle.mz_base.specs.declared.event.Outcome.{Outcome}
use Rattle.mz_base.specs.declared.event.Outcome.TheVariants as outcome
use Rattle.mz_base.specs.declared.logs.JobEntry.{JobEntry}
use Rattle.mz_base.specs.declared.logs.JobEntry.TheVariants as entry
use Rattle.run_meaning.specs.Jobs.{is_logged, is_published, job_of, newer, newest, outcome_of, publishes}
use Rattle.run_meaning.specs.Numbers.{at_number, numbers}
use Rattle.run_meaning.proofs.LogLemmas.{count-cons, logged-push, newest-push, or-false, or-true, published-logged, published-push}
use Rattle.run_meaning.proofs.NumberLemmas.{others, written}
use Rattle.run_meaning.proofs.RunningLemmas.{number-from}
use Rattle.core_steps.specs.Boards.{IsBoard, came, is_missing, mark_of, newest_with, stands}
use Rattle.core_steps.specs.declared.board.Board.{Board}
use Rattle.core_steps.specs.declared.board.Mark.{Mark}
use Rattle.core_steps.specs.declared.board.Mark.TheVariants as mark

-- ---- No job came

-- each mark is missing
missing : (count job : ℕ) → at_number mark.Missing (replicate count mark.Missing) job ≡ mark.Missing
missing count zero = refl
missing count (suc place) =
    ⊎_elim (λ within. get_or-replicate count place mark.Missing mark.Missing within) (λ behind. get_or_past (replicate count mark.Missing) place mark.Missing (let none : length (replicate count mark.Missing) ≤ place = subst (λ n. n ≤ place) (sym (length-replicate count mark.Missing)) behind in none)) (cases_lt place count)

-- all marks are missing
pub begun : (jobs : ℕ) (board : Board) → board.marks.items ≡ replicate jobs mark.Missing → board.left ≡ jobs → board.newest ≡ 0 → IsBoard jobs [] board
begun jobs board marks left newest =
    let all : count_by is_missing (replicate jobs mark.Missing) ≡ jobs * 1 = sum_by-replicate (λ x. cond (is_missing x) 1 0) jobs mark.Missing in
    record {
      marks = ap (λ (xs : List Mark). length xs) marks ∙ length-replicate jobs mark.Missing;
      logged = λ job. ap (λ xs. came (at_number mark.Missing xs job)) marks ∙ ap came (missing jobs job);
      published = λ job. ap (λ xs. stands (at_number mark.Missing xs job)) marks ∙ ap stands (missing jobs job);
      left = (let same : board.left ≡ count_by is_missing (replicate jobs mark.Missing) = omega (arith, left, all) in same) ∙ ap (count_by is_missing) (sym marks);
      newest = newest;
    }

-- ---- Each job came

-- where what passes stands at the numbers that pass, none fails exactly where all numbers pass
none-fails : {A : Type 0} (p : A → Bool) (q : ℕ → Bool) (none : A) (xs : List A) (n : ℕ) → ((k : ℕ) → p (get_or xs k none) ≡ q (n + k)) → nat_eq (count_by (λ x. not (p x)) xs) 0 ≡ list_all q (range_with_len n (length xs))
none-fails p q none [] n each = refl
none-fails p q none (x ∷ xs) n each =
    ap (λ k. nat_eq k 0) (count-cons (λ y. not (p y)) x xs)
    ∙ by_test (p x) refl (none-fails p q none xs (n + 1) (λ k. each (suc k) ∙ ap q (let same : n + suc k ≡ n + 1 + k = omega arith in same)))
  where
    here : (b : Bool) → p x ≡ b → q n ≡ b
    here b is = ap q (let same : n ≡ n + 0 = omega arith in same) ∙ (sym (each 0) ∙ is)

    by_test : (b : Bool) → p x ≡ b → nat_eq (count_by (λ y. not (p y)) xs) 0 ≡ list_all q (range_with_len (n + 1) (length xs)) → nat_eq (cond (not (p x)) 1 0 + count_by (λ y. not (p y)) xs) 0 ≡ (q n && list_all q (range_with_len (n + 1) (length xs)))
    by_test true is rest =
        ap (λ b. nat_eq (cond (not b) 1 0 + count_by (λ y. not (p y)) xs) 0) is
        ∙ (ap (λ k. nat_eq k 0) (let same : 0 + count_by (λ y. not (p y)) xs ≡ count_by (λ y. not (p y)) xs = omega arith in same) ∙ (rest ∙ ap (λ b. b && list_all q (range_with_len (n + 1) (length xs))) (sym (here true is))))
    by_test false is rest =
        ap (λ b. nat_eq (cond (not b) 1 0 + count_by (λ y. not (p y)) xs) 0) is
        ∙ (ne_eqb (1 + count_by (λ y. not (p y)) xs) 0 (λ same. absurd (omega (arith, same))) ∙ ap (λ b. b && list_all q (range_with_len (n + 1) (length xs))) (sym (here false is)))

-- none is left exactly where each job came
pub full : (jobs : ℕ) (log : List JobEntry) (board : Board) → IsBoard jobs log board → nat_eq board.left 0 ≡ list_all (is_logged log) (numbers jobs)
full jobs log board is =
    ap (λ n. nat_eq n 0) is.left
    ∙ (none-fails came (is_logged log) mark.Missing board.marks.items 1 (λ k. is.logged (suc k) ∙ ap (is_logged log) (let same : suc k ≡ 1 + k = omega arith in same)) ∙ ap (λ n. list_all (is_logged log) (numbers n)) is.marks)

-- ---- One entry more

-- a mark at a number is what a test says there, and nothing else changes
tests-noted : (test : Mark → Bool) (was now : ℕ → Bool) (marks : List Mark) (place : ℕ) (m : Mark) → place < length marks → ((job : ℕ) → test (at_number mark.Missing marks job) ≡ was job) → ((job : ℕ) → suc place ≢ job → now job ≡ was job) → now (suc place) ≡ test m → (job : ℕ) → test (at_number mark.Missing (set marks place m) job) ≡ now job
tests-noted test was now marks place m within before apart here job =
    ⊎_elim (λ same. subst (λ n. test (at_number mark.Missing (set marks place m) n) ≡ now n) same (ap test (written mark.Missing marks (suc place) m (number-from marks (suc place) (omega arith) (omega (arith, within)))) ∙ sym here)) (λ other. ap test (others mark.Missing marks (suc place) job m other) ∙ (before job ∙ sym (apart job other))) (cases_eq (suc place) job)

-- the mark of a job that came
came-mark : (o : Outcome) → came (mark_of o) ≡ true
came-mark outcome.Published = refl
came-mark outcome.Refused = refl
came-mark outcome.Skipped = refl

-- an entry publishes its own job alone
publishes-other : (e : JobEntry) (job : ℕ) → job_of e ≢ job → publishes job e ≡ false
publishes-other (entry.Published other) job apart = ne_eqb other job apart
publishes-other (entry.Refused other path fault) job apart = refl
publishes-other (entry.Skipped other by) job apart = refl

-- and its mark stands where it does
publishes-own : (e : JobEntry) → publishes (job_of e) e ≡ stands (mark_of (outcome_of e))
publishes-own (entry.Published job) = eq-eqb job job refl
publishes-own (entry.Refused job path fault) = refl
publishes-own (entry.Skipped job by) = refl

-- a job that did not come does not stand
not-published : (log : List JobEntry) (job : ℕ) → is_logged log job ≡ false → is_published log job ≡ false
not-published log job fresh = by_test (is_published log job) refl
  where
    by_test : (b : Bool) → is_published log job ≡ b → is_published log job ≡ false
    by_test true is = absurd (true≢false (sym (published-logged log job is) ∙ fresh))
    by_test false is = is

-- a mark that came counts nothing
abbrev weight : Bool → ℕ
weight came = cond (not came) 1 0

-- the newest job, as an entry says it
newest-own : (before : ℕ) (e : JobEntry) → newest_with before (job_of e) (outcome_of e) ≡ newer before e
newest-own before (entry.Published job) = refl
newest-own before (entry.Refused job path fault) = refl
newest-own before (entry.Skipped job by) = refl

-- the board with the mark of a job that did not come
pub noted : (jobs : ℕ) (log : List JobEntry) (e : JobEntry) (before after : Board) (place : ℕ) → IsBoard jobs log before → is_logged log (suc place) ≡ false → job_of e ≡ suc place → place < length before.marks.items → after.marks.items ≡ set before.marks.items place (mark_of (outcome_of e)) → after.left ≡ before.left - 1 → after.newest ≡ newest_with before.newest (suc place) (outcome_of e) → IsBoard jobs (log ++ e ∷ []) after
noted jobs log e before after place is fresh own within marks left newest_is =
    let m = mark_of (outcome_of e) in
    let old = before.marks.items in
    let log_now = log ++ e ∷ [] in
    let missing : came (get_or old place mark.Missing) ≡ false = is.logged (suc place) ∙ fresh in
    let counts = sum_by-set (λ x. weight (came x)) old place m mark.Missing within in
    let one : weight (came (get_or old place mark.Missing)) ≡ 1 = ap weight missing in
    let gone : weight (came m) ≡ 0 = ap weight (came-mark (outcome_of e)) in
    let was = is.left in
    let fewer : after.left ≡ count_by (is_missing) (set old place m) = omega (arith, counts, one, gone, was, left) in
    record {
      marks = ap (λ (xs : List Mark). length xs) marks ∙ (length-set old place m ∙ is.marks);
      logged =
          λ job. ap (λ xs. came (at_number mark.Missing xs job)) marks
          ∙ tests-noted came (is_logged log) (is_logged log_now) old place m within is.logged (λ other apart. logged-push log e other ∙ (ap (λ b. is_logged log other || b) (ne_eqb (job_of e) other (λ same. apart (sym own ∙ same))) ∙ or-false (is_logged log other))) (logged-push log e (suc place) ∙ (ap (λ b. is_logged log (suc place) || b) (eq-eqb (job_of e) (suc place) own) ∙ (or-true (is_logged log (suc place)) ∙ sym (came-mark (outcome_of e))))) job;
      published =
          λ job. ap (λ xs. stands (at_number mark.Missing xs job)) marks
          ∙ tests-noted stands (is_published log) (is_published log_now) old place m within is.published (λ other apart. published-push log e other ∙ (ap (λ b. is_published log other || b) (publishes-other e other (λ same. apart (sym own ∙ same))) ∙ or-false (is_published log other))) (published-push log e (suc place) ∙ (ap (λ b. b || publishes (suc place) e) (not-published log (suc place) fresh) ∙ (ap (λ n. publishes n e) (sym own) ∙ publishes-own e))) job;
      left = fewer ∙ ap (λ xs. count_by (is_missing) xs) (sym marks);
      newest = newest_is ∙ (ap (λ n. newest_with before.newest n (outcome_of e)) (sym own) ∙ newest-own before.newest e) ∙ (ap (λ n. newer n e) is.newest ∙ sym (newest-push log e));
    }
