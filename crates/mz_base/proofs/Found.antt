-- What the longest rule that fits is.
use Rattle.std.proofs.Common.{◌≡◌, ℕ, ◌≤◌, true, false, List, [], ◌∷◌, Option, Some, None, length, refl, sym, ◌∙◌, subst, arith, nat_lt, IfSome, IsSomeAnd}
use Rattle.std.specs.List.{AllByRecursion, Contains}
use Rattle.std.proofs.lemmas.Bool.{cond_both, cond-true, false≢true, false_from_ne_true, ltb-true, ltb-false}
use Rattle.std.proofs.lemmas.List.Elements.{All-contains, All-contains_itself, All-from_recursion, recursion_from_All}
use Rattle.mz_base.specs.Kana.{fits, longer, longest}
use Rattle.mz_base.specs.declared.romaji.Rule.{Rule}

-- what holds of both holds of the longer
longer-holds : (P : Rule → Type 0) (rule : Rule) (other : Option Rule) → P rule → IfSome other P → IfSome (longer rule other) P
longer-holds P rule None here there = here
longer-holds P rule (Some other) here there =
    cond_both (nat_lt (length rule.input) (length other.input)) (Some other) (Some rule) (λ found. IfSome found P) (λ _. there) (λ _. here)

-- what holds of each rule that fits holds of the longest
pub longest-holds : (P : Rule → Type 0) (rules : List Rule) (text : List ℕ) → AllByRecursion (λ rule. fits text rule ≡ true → P rule) rules → IfSome (longest rules text) P
longest-holds P [] text each = tt
longest-holds P (rule ∷ rules) text each =
    let rest : IfSome (longest rules text) P = longest-holds P rules text each.1 in
    cond_both (fits text rule) (longer rule (longest rules text)) (longest rules text) (λ found. IfSome found P) (λ fit. longer-holds P rule (longest rules text) (each.0 fit) rest) (λ _. rest)

-- a rule whose input is as long as this, or longer
abbrev pub Reaches : Option Rule → ℕ → Type 0
Reaches found n = IsSomeAnd found (λ rule. n ≤ length rule.input)

longer-reaches_first : (rule : Rule) (other : Option Rule) → Reaches (longer rule other) (length rule.input)
longer-reaches_first rule None = omega arith
longer-reaches_first rule (Some other) =
    cond_both (nat_lt (length rule.input) (length other.input)) (Some other) (Some rule) (λ found. Reaches found (length rule.input)) (λ less. omega (arith, ltb-true (length rule.input) (length other.input) less)) (λ _. omega arith)

longer-reaches_second : (rule : Rule) (other : Option Rule) (n : ℕ) → Reaches other n → Reaches (longer rule other) n
longer-reaches_second rule None n there = absurd there
longer-reaches_second rule (Some other) n there =
    cond_both (nat_lt (length rule.input) (length other.input)) (Some other) (Some rule) (λ found. Reaches found n) (λ _. there) (λ more. omega (arith, ltb-false (length rule.input) (length other.input) more))

-- the longest is as long as each rule that fits
each-reached : (rules : List Rule) (text : List ℕ) (P : ℕ → Type 0) → ((n : ℕ) → Reaches (longest rules text) n → P n) → AllByRecursion (λ other. fits text other ≡ true → P (length other.input)) rules
each-reached [] text P given = tt
each-reached (rule ∷ rules) text P given = (
  λ fit. given (length rule.input) (subst (λ found. Reaches found (length rule.input)) (sym (cond-true (fits text rule) (longer rule (longest rules text)) (longest rules text) fit)) (longer-reaches_first rule (longest rules text))),
  each-reached rules text P (λ n there.
      given n (cond_both (fits text rule) (longer rule (longest rules text)) (longest rules text) (λ found. Reaches found n) (λ _. longer-reaches_second rule (longest rules text) n there) (λ _. there))),
)

pub longest-reaches : (rules : List Rule) (text : List ℕ) (other : Rule) → Contains rules other → fits text other ≡ true → Reaches (longest rules text) (length other.input)
longest-reaches rules text other among fit =
    let P : Rule → Type 0 = λ rule. fits text rule ≡ true → Reaches (longest rules text) (length rule.input) in
    All-contains P rules other (All-from_recursion P rules (each-reached rules text (Reaches (longest rules text)) (λ n reached. reached))) among fit

-- the four parts of the law
pub longest-one_of : (rules : List Rule) (text : List ℕ) (rule : Rule) → longest rules text ≡ Some rule → Contains rules rule
longest-one_of rules text rule is =
    let P : Rule → Type 0 = λ each. fits text each ≡ true → Contains rules each in
    subst (λ found. IfSome found (Contains rules)) is (longest-holds (Contains rules) rules text (recursion_from_All P rules (λ k d inside _. All-contains_itself rules k d inside)))

all-fit : (rules : List Rule) (text : List ℕ) → AllByRecursion (λ rule. fits text rule ≡ true → fits text rule ≡ true) rules
all-fit [] text = tt
all-fit (rule ∷ rules) text = ((λ fit. fit), all-fit rules text)

pub longest-fits : (rules : List Rule) (text : List ℕ) (rule : Rule) → longest rules text ≡ Some rule → fits text rule ≡ true
longest-fits rules text rule is =
    subst (λ found. IfSome found (λ each. fits text each ≡ true)) is (longest-holds (λ each. fits text each ≡ true) rules text (all-fit rules text))

pub longest-none_longer : (rules : List Rule) (text : List ℕ) (rule other : Rule) → longest rules text ≡ Some rule → Contains rules other → fits text other ≡ true → length other.input ≤ length rule.input
longest-none_longer rules text rule other is among fit =
    subst (λ found. Reaches found (length other.input)) is (longest-reaches rules text other among fit)

pub longest-none : (rules : List Rule) (text : List ℕ) → longest rules text ≡ None → (rule : Rule) → Contains rules rule → fits text rule ≡ false
longest-none rules text is rule among =
    false_from_ne_true (fits text rule) (λ fit. subst (λ found. Reaches found (length rule.input)) is (longest-reaches rules text rule among fit))

none_from : (found : Option Rule) → IfSome found (λ _. ⊥) → found ≡ None
none_from None given = refl
none_from (Some rule) given = absurd given

pub none-longest : (rules : List Rule) (text : List ℕ) → ((rule : Rule) → Contains rules rule → fits text rule ≡ false) → longest rules text ≡ None
none-longest rules text none =
    let P : Rule → Type 0 = λ rule. fits text rule ≡ true → ⊥ in
    none_from (longest rules text) (longest-holds (λ _. ⊥) rules text (recursion_from_All P rules (λ k d inside fit. false≢true (sym (none _ (All-contains_itself rules k d inside)) ∙ fit))))
