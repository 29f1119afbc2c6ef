-- Numbers that never fall, and what is seen of a journal that grows.
use Rattle.std.proofs.Common.{◌≡◌, refl, sym, ap, subst, ◌∙◌, ℕ, suc, ◌+◌, ◌<◌, ◌≤◌, Bool, true, false, cond, All, AllPairs, List, [], ◌∷◌, ◌++◌, length, get_or, map, take, drop, arith, append_assoc, append-nil, count_by, filter_map}
use Rattle.std.specs.Prelude.{if◌then◌else◌}
use Rattle.std.specs.List.{cons_option}
use Rattle.std.proofs.lemmas.List.{length-map, get_or-map, map-append, take-append-drop, take-append-le, take-take, take_all}
use Rattle.std.proofs.lemmas.List.Elements.{All-head, All-push, All-tail, All-weaker, filter_map-append}
use Rattle.std.proofs.lemmas.List.Quantifiers.{all_pairs_push}
use Rattle.mz_base.specs.declared.lattice.Pair.{Pair}
use Rattle.mz_base.specs.declared.logs.Own.{Own}
use Rattle.mz_base.specs.declared.logs.UserEntry.{UserEntry}
use Rattle.mz_base.specs.declared.logs.UserEntry.TheVariants as entry
use Rattle.run_meaning.specs.GrowthLaws.{IsGrown}
use Rattle.run_meaning.specs.JournalLaws.{end_if, is_learn, learns_in, numbered}
use Rattle.run_meaning.specs.SeenLaws.{is_learn_entry, is_take, journals_seen, learns_before, length_seen}
use Rattle.run_meaning.proofs.LogLemmas.{count-cons}

-- ---- Numbers that never fall, up to a highest one

pub record IsRising (top : ℕ) (ns : List ℕ) : Type 0 where
  pub high : All (λ n. n ≤ top) ns
  pub rise : AllPairs ◌≤◌ ns

pub rising-up : (top higher : ℕ) (ns : List ℕ) → top ≤ higher → IsRising top ns → IsRising higher ns
rising-up top higher ns up are =
    record { high = All-weaker (λ n. n ≤ top) (λ n. n ≤ higher) (λ n low. omega (arith, low, up)) ns are.high; rise = are.rise }

pub rising-more : (top n : ℕ) (ns : List ℕ) → top ≤ n → IsRising top ns → IsRising n (ns ++ n ∷ [])
rising-more top n ns up are =
    let below = (rising-up top n ns up are).high in
    record { high = All-push (λ m. m ≤ n) ns n below (let same : n ≤ n = omega arith in same); rise = all_pairs_push ◌≤◌ ns n are.rise below }

pub rising-same : (top : ℕ) (ns : List ℕ) → IsRising top ns → IsRising top (ns ++ [])
rising-same top ns are = subst (IsRising top) (sym (append-nil ns)) are

-- ---- Parts of a journal

grown-takes : {A : Type 0} (journal : List A) (m n : ℕ) → m ≤ n → IsGrown (take m journal) (take n journal)
grown-takes journal m n up =
    (drop m (take n journal), sym (take-append-drop m (take n journal)) ∙ ap (λ front. front ++ drop m (take n journal)) (take-take m n journal up))

pub grown-parts : {A : Type 0} (journal : List A) (ns : List ℕ) → AllPairs ◌≤◌ ns → AllPairs IsGrown (map (λ n. take n journal) ns)
grown-parts journal ns rise i j d below inside =
    let high : j < length ns = subst (λ n. j < n) (length-map ns (λ n. take n journal)) inside in
    let low : i < length ns = omega (arith, below, high) in
    subst (λ xs. IsGrown xs (get_or (map (λ n. take n journal) ns) j d)) (sym (get_or-map (λ n. take n journal) ns i 0 d low)) (subst (λ xs. IsGrown (take (get_or ns i 0) journal) xs) (sym (get_or-map (λ n. take n journal) ns j 0 d high)) (grown-takes journal (get_or ns i 0) (get_or ns j 0) (rise i j 0 below high)))

-- they are the same in a longer one
pub same-parts : {A : Type 0} (journal more : List A) (ns : List ℕ) → All (λ n. n ≤ length journal) ns → map (λ n. take n (journal ++ more)) ns ≡ map (λ n. take n journal) ns
same-parts journal more [] within = refl
same-parts {A} journal more (n ∷ ns) within =
    ap (λ (front : List A). front ∷ map (λ n. take n (journal ++ more)) ns) (take-append-le n journal more (All-head (λ n. n ≤ length journal) n ns within))
    ∙ ap (λ (rest : List (List A)). take n journal ∷ rest) (same-parts journal more ns (All-tail (λ n. n ≤ length journal) n ns within))

pub all-seen : {A : Type 0} (journal : List A) → take (length journal) journal ≡ journal
all-seen journal = take_all (length journal) journal (let all : length journal ≤ length journal = omega arith in all)

-- an own event more
pub seen-more : (journal : List UserEntry) (own : List Own) (o : Own) → journals_seen journal (own ++ o ∷ []) ≡ journals_seen journal own ++ map (λ n. take n journal) (cons_option (length_seen o) [])
seen-more journal own o =
    ap (map (λ n. take n journal)) (filter_map-append length_seen own (o ∷ []))
    ∙ map-append (λ n. take n journal) (filter_map length_seen own) (cons_option (length_seen o) [])

-- ---- Learns before takes

-- the learns before one more own event
learns-cons : (o : Own) (own : List Own) → learns_in (o ∷ own) ≡ cond (is_learn o.event) 1 0 + learns_in own
learns-cons o own = count-cons (λ (x : Own). is_learn x.event) o own

pub before-more : (made : ℕ) (own : List Own) (o : Own) → learns_before made (own ++ o ∷ []) ≡ learns_before made own ++ (if is_take o.event then (made + learns_in own) ∷ [] else [])
before-more made [] o =
    append-nil (if is_take o.event then made ∷ [] else []) ∙ ap (λ n. if is_take o.event then n ∷ [] else []) (let same : made ≡ made + 0 = omega arith in same)
before-more made (first ∷ own) o =
    let here : List ℕ = if is_take first.event then made ∷ [] else [] in
    let next : ℕ = if is_learn first.event then made + 1 else made in
    ap (λ rest. here ++ rest) (before-more next own o ∙ ap (λ n. learns_before next own ++ (if is_take o.event then n ∷ [] else [])) (sums (is_learn first.event) refl))
    ∙ sym (append_assoc here (learns_before next own) (if is_take o.event then (made + learns_in (first ∷ own)) ∷ [] else []))
  where
    sums : (b : Bool) → is_learn first.event ≡ b → (if is_learn first.event then made + 1 else made) + learns_in own ≡ made + learns_in (first ∷ own)
    sums b is =
        let parts : learns_in (first ∷ own) ≡ cond (is_learn first.event) 1 0 + learns_in own = learns-cons first own in
        by_test b is parts
      where
        by_test : (b : Bool) → is_learn first.event ≡ b → learns_in (first ∷ own) ≡ cond (is_learn first.event) 1 0 + learns_in own → (if is_learn first.event then made + 1 else made) + learns_in own ≡ made + learns_in (first ∷ own)
        by_test true is parts =
            let one : learns_in (first ∷ own) ≡ 1 + learns_in own = parts ∙ ap (λ b. cond b 1 0 + learns_in own) is in
            ap (λ b. (if b then made + 1 else made) + learns_in own) is ∙ (let sum : made + 1 + learns_in own ≡ made + learns_in (first ∷ own) = omega (arith, one) in sum)
        by_test false is parts =
            let none : learns_in (first ∷ own) ≡ 0 + learns_in own = parts ∙ ap (λ b. cond b 1 0 + learns_in own) is in
            ap (λ b. (if b then made + 1 else made) + learns_in own) is ∙ (let sum : made + learns_in own ≡ made + learns_in (first ∷ own) = omega (arith, none) in sum)

-- ---- Learns of a client in its entries

count-numbered : (c from : ℕ) (learned : List (List Pair)) (ended : Bool) (count : ℕ) → count_by is_learn_entry (numbered c from learned ++ end_if ended c count) ≡ length learned
count-numbered c from [] true count = refl
count-numbered c from [] false count = refl
count-numbered c from (pairs ∷ learned) ended count =
    let rest = count-numbered c (from + 1) learned ended count in
    count-cons is_learn_entry (entry.Learn c from pairs) (numbered c (from + 1) learned ++ end_if ended c count) ∙ (let sum : 1 + count_by is_learn_entry (numbered c (from + 1) learned ++ end_if ended c count) ≡ suc (length learned) = omega (arith, rest) in sum)

pub counted-learns : (c : ℕ) (learned : List (List Pair)) (ended : Bool) (entries : List UserEntry) → entries ≡ numbered c 1 learned ++ end_if ended c (length learned) → count_by is_learn_entry entries ≡ length learned
counted-learns c learned ended entries are = ap (count_by is_learn_entry) are ∙ count-numbered c 1 learned ended (length learned)
