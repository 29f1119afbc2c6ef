-- The longest rule that fits a text.
use Rattle.std.proofs.Common.{◌≡◌, ◌≢◌, ℕ, ◌-◌, ◌<◌, ◌≤◌, true, false, List, [], ◌∷◌, Option, Some, None, length, take, get_or, nat_lt, zero, suc, sym, ap, ◌∙◌, refl, inl, inr, arith}
use Rattle.std.specs.List.{All, AllByRecursion}
use Rattle.std.specs.Option.{IfSome}
use Rattle.std.proofs.lemmas.Bool.{false_from_ne_true, cases_Bool}
use Rattle.std.proofs.lemmas.Bool.Decides.{nat_tests}
use Rattle.std.proofs.lemmas.List.{length-take}
use Rattle.std.proofs.lemmas.List.Elements.{All-head, All-tail, All-from_recursion}
use Rattle.std.proofs.lemmas.Slice.Eq.{bytes_eq-Decides}
use Rattle.mz_base.specs.Kana.{AreDistinct, IsRule, fits, longer, longest}
use Rattle.mz_base.specs.declared.romaji.Rule.{Rule}

-- where it fits, the rule has at most so many characters
abbrev pub IsWithin : List ℕ → ℕ → Rule → Type 0
IsWithin text most rule = fits text rule ≡ true → length rule.input ≤ most

-- each rule that fits has
abbrev pub FitsWithin : List Rule → List ℕ → ℕ → Type 0
FitsWithin rules text most = All (IsWithin text most) rules

-- a rule that fits is a front of the text
pub fits-is : (text : List ℕ) (rule : Rule) → fits text rule ≡ true → rule.input ≡ take (length rule.input) text
fits-is text rule fit = (bytes_eq-Decides rule.input (take (length rule.input) text)).0 fit

pub fits-length : (text : List ℕ) (rule : Rule) → fits text rule ≡ true → length rule.input ≤ length text
fits-length text rule fit =
    omega (arith, ap length (fits-is text rule fit), length-take (length rule.input) text)

-- a front of the text fits
pub fits-from_front : (text : List ℕ) (rule : Rule) (n : ℕ) → n ≤ length text → rule.input ≡ take n text → (length rule.input ≡ n) × (fits text rule ≡ true)
fits-from_front text rule n within is =
    let long : length rule.input ≡ n = omega (arith, ap length is, length-take n text) in
    (long, (bytes_eq-Decides rule.input (take (length rule.input) text)).1 (rw long is))

-- where no input is the front of this length, the rules that fit are shorter
pub FitsWithin-shorter : (rules : List Rule) (text : List ℕ) (n : ℕ) → n ≤ length text → FitsWithin rules text n → All (λ rule. rule.input ≢ take n text) rules → FitsWithin rules text (n - 1)
FitsWithin-shorter rules text n within fit none k d inside is =
    let rule = get_or rules k d in
    let most : length rule.input ≤ n = fit k d inside is in
    let other : length rule.input ≡ n → ⊥ =
    λ same. none k d inside (fits-is text rule is ∙ ap (λ m. take m text) same) in
    omega (arith, most, other)

-- where none fits, there is no longest
pub longest-none : (rules : List Rule) (text : List ℕ) → AllByRecursion IsRule rules → FitsWithin rules text 0 → longest rules text ≡ None
longest-none [] text each fit = refl
longest-none (rule ∷ rules) text each fit =
    let short = All-head (IsWithin text 0) rule rules fit in
    let no : fits text rule ≡ false =
    false_from_ne_true _ (λ is. absurd (omega (arith, short is, each.0.typed))) in
    rw no (longest-none rules text each.1 (All-tail (IsWithin text 0) rule rules fit))

-- of two rules that have at most so many characters, the longer one
longer-within : (rule : Rule) (other : Option Rule) (n : ℕ) → length rule.input ≤ n → IfSome other (λ rule. length rule.input ≤ n) → IfSome (longer rule other) (λ rule. length rule.input ≤ n)
longer-within rule None n fit rest = fit
longer-within rule (Some other) n fit rest =
    elim (cases_Bool (nat_lt (length rule.input) (length other.input))) [
      | inl is ↦ rw is rest
      | inr not ↦ rw not fit
    ]

-- the longest has as many characters as a rule that fits may have
pub longest-within : (rules : List Rule) (text : List ℕ) (n : ℕ) → FitsWithin rules text n → IfSome (longest rules text) (λ rule. length rule.input ≤ n)
longest-within [] text n fit = tt
longest-within (rule ∷ rules) text n fit =
    let rest = longest-within rules text n (All-tail (IsWithin text n) rule rules fit) in
    elim (cases_Bool (fits text rule)) [
      | inl is ↦ rw is (longer-within rule (longest rules text) n (All-head (IsWithin text n) rule rules fit is) rest)
      | inr not ↦ rw not rest
    ]

-- a rule with that many characters stays
longer-stays : (rule : Rule) (other : Option Rule) (n : ℕ) → length rule.input ≡ n → IfSome other (λ rule. length rule.input ≤ n) → longer rule other ≡ Some rule
longer-stays rule None n long rest = refl
longer-stays rule (Some other) n long rest =
    let no : nat_lt (length rule.input) (length other.input) ≡ false = grind (arith, nat_tests) in
    rw no refl

-- and a shorter one goes
longer-goes : (rule other : Rule) → length rule.input < length other.input → longer rule (Some other) ≡ Some other
longer-goes rule other less =
    let yes : nat_lt (length rule.input) (length other.input) ≡ true = grind (arith, nat_tests) in
    rw yes refl

-- a rule whose input is the longest front that may fit is the longest
pub longest-found : (rules : List Rule) (text : List ℕ) (n k : ℕ) (d : Rule) → AreDistinct rules → FitsWithin rules text n → n ≤ length text → k < length rules → (get_or rules k d).input ≡ take n text → longest rules text ≡ Some (get_or rules k d)
longest-found [] text n k d distinct fit within inside is = absurd (omega arith)
longest-found (rule ∷ rules) text n zero d distinct fit within inside is =
    let (long, fit-here) = fits-from_front text rule n within is in
    rw fit-here (longer-stays rule (longest rules text) n long (longest-within rules text n (All-tail (IsWithin text n) rule rules fit)))
longest-found (rule ∷ rules) text n (suc k) d distinct fit within inside is =
    let below : k < length rules = omega arith in
    let found = longest-found rules text n k d distinct.1 (All-tail (IsWithin text n) rule rules fit) within below is in
    let long : length (get_or rules k d).input ≡ n = (fits-from_front text (get_or rules k d) n within is).0 in
    elim (cases_Bool (fits text rule)) [
      | inl fit-here ↦
          let most : length rule.input ≤ n = All-head (IsWithin text n) rule rules fit fit-here in
          let other : length rule.input ≡ n → ⊥ =
          λ same. All-from_recursion (λ other. other.input ≢ rule.input) rules distinct.0 k d below (is ∙ sym (fits-is text rule fit-here ∙ ap (λ m. take m text) same)) in
          let less : length rule.input < length (get_or rules k d).input = omega (arith, most, other, long) in
          rw (fit-here, found) (longer-goes rule (get_or rules k d) less)
      | inr not ↦ rw (not, found) refl
    ]
