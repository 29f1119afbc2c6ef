-- What a heap of tails says of the endings in it.
use Rattle.std.proofs.Common.{◌≡◌, refl, sym, ap, ◌∙◌, subst, ℕ, zero, suc, ◌+◌, ◌-◌, ◌<◌, ◌≤◌, Bool, true, false, ltb, inl, inr, List, [], ◌∷◌, ◌++◌, flat_map, Option, Some, None, length, get_or, set, take, drop, arith, append-nil, append_assoc}
use Rattle.std.specs.Borrow.{Bor}
use Rattle.std.specs.Prelude.{◌≢◌, ◌*◌, IfSome, MatchOption}
use Rattle.std.specs.BinaryHeap.{IsHeap, IsUpperBound, KeepsHeap}
use Rattle.std.specs.List.{All, HoldsAt, swap}
use Rattle.std.specs.List.Sorted.{IsPermutation}
use Rattle.std.specs.Ordering.{is_lt}
use Rattle.std.specs.declared.cmp.Reverse.{Reverse}
use Rattle.std.proofs.lemmas.List.{get_or-drop, length-drop, length-take-le, set-append_right, set-get_or, set_comm, set_split}
use Rattle.std.proofs.lemmas.Bool.Decides.{nat_tests}
use Rattle.std.proofs.lemmas.List.Sorted.{All-permutation, IsPermutation-append_comm, IsPermutation-append_left, IsPermutation-append_right, IsPermutation-cons, IsPermutation-keeps, IsPermutation-refl, IsPermutation-trans, length_permutation}
use Rattle.std.proofs.lemmas.Grind.{flat_map-append}
use Rattle.conversion_meaning.proofs.Lists.{All-from_among, Among, from_flat_map, place_of}
use Rattle.conversion_meaning.specs.Bounds.{IsWithin}
use Rattle.viterbi.specs.Table.{most_reached}
use Rattle.nbest.specs.declared.tail.Tail.{Tail}
use Rattle.nbest.specs.Tails.{Ending, IsFamily, IsFirstOf, IsInOrder, IsNotBehind, IsQueue, LosesFirst, Replaces, compared, ending, families, family, family_of, no_ending}
use Rattle.nbest.proofs.FamilyLemmas.{IsNotBehind-from, IsNotBehind-trans}

-- ---- Parts that change places

module _ {X Y : Type 0} (f : X → List Y) where
  parts_swap : (xs ys zs rest : List Y) → IsPermutation (xs ++ (ys ++ (zs ++ rest))) (zs ++ (ys ++ (xs ++ rest)))
  parts_swap xs ys zs rest =
      let to : xs ++ (ys ++ (zs ++ rest)) ≡ ((xs ++ ys) ++ zs) ++ rest = sym (append_assoc xs ys (zs ++ rest)) ∙ sym (append_assoc (xs ++ ys) zs rest) in
      let from : (zs ++ (ys ++ xs)) ++ rest ≡ zs ++ (ys ++ (xs ++ rest)) = append_assoc zs (ys ++ xs) rest ∙ ap (λ l. zs ++ l) (append_assoc ys xs rest) in
      let turned : IsPermutation ((xs ++ ys) ++ zs) (zs ++ (ys ++ xs)) = IsPermutation-trans _ _ _ (IsPermutation-append_comm (xs ++ ys) zs) (IsPermutation-append_right zs (xs ++ ys) (ys ++ xs) (IsPermutation-append_comm xs ys)) in
      subst (λ l. IsPermutation l (zs ++ (ys ++ (xs ++ rest)))) (sym to) (subst (λ l. IsPermutation (((xs ++ ys) ++ zs) ++ rest) l) from (IsPermutation-append_left rest _ _ turned))

  flat_parts : (front : List X) (x : X) (bs : List X) (y : X) (cs : List X) → IsPermutation (flat_map f (front ++ x ∷ (bs ++ y ∷ cs))) (flat_map f (front ++ y ∷ (bs ++ x ∷ cs)))
  flat_parts front x bs y cs =
      let one : (u v : X) → flat_map f (front ++ u ∷ (bs ++ v ∷ cs)) ≡ flat_map f front ++ (f u ++ (flat_map f bs ++ (f v ++ flat_map f cs))) = λ u v. flat_map-append f front (u ∷ (bs ++ v ∷ cs)) ∙ ap (λ l. flat_map f front ++ (f u ++ l)) (flat_map-append f bs (v ∷ cs)) in
      subst (λ l. IsPermutation l (flat_map f (front ++ y ∷ (bs ++ x ∷ cs)))) (sym (one x y)) (subst (λ l. IsPermutation (flat_map f front ++ (f x ++ (flat_map f bs ++ (f y ++ flat_map f cs)))) l) (sym (one y x)) (IsPermutation-append_right (flat_map f front) _ _ (parts_swap (f x) (flat_map f bs) (f y) (flat_map f cs))))

  split : (l : List X) (d : X) (i : ℕ) → i < length l → l ≡ take i l ++ get_or l i d ∷ drop (suc i) l
  split l d i low = sym (set-get_or l i d) ∙ set_split l i (get_or l i d) low

  flat_swap : (l : List X) (d : X) (i j : ℕ) → i < j → j < length l → IsPermutation (flat_map f l) (flat_map f (set (set l i (get_or l j d)) j (get_or l i d)))
  flat_swap l d i j below inside =
      let low : i < length l = omega (arith, below, inside) in
      let x = get_or l i d in
      let y = get_or l j d in
      let front = take i l in
      let rest = drop (suc i) l in
      let k = j - suc i in
      let n : length front ≡ i = length-take-le i l (omega (arith, low)) in
      let r = length-drop (suc i) l in
      let k_low : k < length rest = omega (arith, r, inside, below) in
      let y_is : get_or rest k d ≡ y = get_or-drop (suc i) l k d ∙ ap (λ m. get_or l m d) (let e : suc i + k ≡ j = omega (arith, below) in e) in
      let there : l ≡ front ++ x ∷ (take k rest ++ y ∷ drop (suc k) rest) = split l d i low ∙ (ap (λ ys. front ++ x ∷ ys) (split rest d k k_low) ∙ ap (λ z. front ++ x ∷ (take k rest ++ z ∷ drop (suc k) rest)) y_is) in
      let past : j - i ≡ suc k = omega (arith, below) in
      let moved : set (set l i y) j x ≡ front ++ y ∷ (take k rest ++ x ∷ drop (suc k) rest) = ap (λ m. set m j x) (set_split l i y low) ∙ (set-append_right front (y ∷ rest) i j x n (omega (arith, below)) ∙ (ap (λ m. front ++ set (y ∷ rest) m x) past ∙ ap (λ ys. front ++ y ∷ ys) (set_split rest k x k_low))) in
      subst (λ m. IsPermutation (flat_map f m) (flat_map f (set (set l i y) j x))) (sym there) (subst (λ m. IsPermutation (flat_map f (front ++ x ∷ (take k rest ++ y ∷ drop (suc k) rest))) (flat_map f m)) (sym moved) (flat_parts front x (take k rest) y (drop (suc k) rest)))

  -- lists with the same elements give parts with the same elements
  pub IsPermutation-flat_map : (xs ys : List X) → IsPermutation xs ys → IsPermutation (flat_map f xs) (flat_map f ys)
  IsPermutation-flat_map xs ys same =
      IsPermutation-keeps xs (λ l. IsPermutation (flat_map f xs) (flat_map f l)) (IsPermutation-refl (flat_map f xs)) (λ l i j p q h. IsPermutation-trans _ _ _ h (step l i j p q)) ys same
    where
      apart : (d : X) (zs : List X) (i j : ℕ) → i < length (d ∷ zs) → j < length (d ∷ zs) → (b c : Bool) → ltb i j ≡ b → ltb j i ≡ c → IsPermutation (flat_map f (d ∷ zs)) (flat_map f (set (set (d ∷ zs) i (get_or (d ∷ zs) j d)) j (get_or (d ∷ zs) i d)))
      apart d zs i j p q true c less _ =
          flat_swap (d ∷ zs) d i j (grind (arith, nat_tests, less)) q
      apart d zs i j p q false true _ less =
          let low : j < i = grind (arith, nat_tests, less) in
          subst (λ m. IsPermutation (flat_map f (d ∷ zs)) (flat_map f m)) (set_comm (d ∷ zs) j i (get_or (d ∷ zs) i d) (get_or (d ∷ zs) j d) (λ e. omega (arith, e, low))) (flat_swap (d ∷ zs) d j i low p)
      apart d zs i j p q false false more less =
          let one : i ≡ j = grind (arith, nat_tests, more, less) in
          let same : set (set (d ∷ zs) i (get_or (d ∷ zs) j d)) j (get_or (d ∷ zs) i d) ≡ d ∷ zs = ap (λ k. set (set (d ∷ zs) i (get_or (d ∷ zs) k d)) k (get_or (d ∷ zs) i d)) (sym one) ∙ (ap (λ m. set m i (get_or (d ∷ zs) i d)) (set-get_or (d ∷ zs) i d) ∙ set-get_or (d ∷ zs) i d) in
          subst (λ m. IsPermutation (flat_map f (d ∷ zs)) (flat_map f m)) (sym same) (IsPermutation-refl _)

      step : (l : List X) (i j : ℕ) → i < length l → j < length l → IsPermutation (flat_map f l) (flat_map f (swap l i j))
      step [] i j p q = absurd (omega (arith, p))
      step (d ∷ zs) i j p q =
          apart d zs i j p q (ltb i j) (ltb j i) refl refl

-- ---- The first of a queue

All-at : {X : Type 0} (P : X → Type 0) (x : X) (xs : List X) → All P xs → Among x xs → P x
All-at P x xs all h =
    let r = place_of x xs h in subst P (r.2 x) (all r.0 x r.1)

all_from_bound : (x y : Reverse Tail) (xs : List (Reverse Tail)) → IsUpperBound compared x xs → Among y xs → is_lt (compared x y) ≡ false
all_from_bound x y [] h k = absurd k
all_from_bound x y (z ∷ xs) h (inl same) =
    subst (λ w. is_lt (compared x w) ≡ false) same h.0
all_from_bound x y (z ∷ xs) h (inr k) = all_from_bound x y xs h.1 k

first_of_families : (x : Reverse Tail) (xs : List (Reverse Tail)) → 0 < length xs → x ≡ get_or xs 0 x → get_or (families xs) 0 no_ending ≡ ending x.0
first_of_families x [] some is = absurd (let low : 0 < 0 = some in omega arith)
first_of_families x (y ∷ xs) some is =
    ap (λ (z : Reverse Tail). ending z.0) (sym is)

pub some_families : (xs : List (Reverse Tail)) → 0 < length xs → 0 < length (families xs)
some_families [] some = absurd (let low : 0 < 0 = some in omega arith)
some_families (x ∷ xs) some = omega arith

pub some_heap : (xs : List (Reverse Tail)) → 0 < length (families xs) → 0 < length xs
some_heap [] some = absurd (let low : 0 < 0 = some in omega arith)
some_heap (x ∷ xs) some = omega arith

pub no_families : (xs : List (Reverse Tail)) → length xs ≡ 0 → families xs ≡ []
no_families [] none = refl
no_families (x ∷ xs) none = absurd (let e : length (x ∷ xs) ≡ 0 = none in omega (arith, e))

not_behind : (x y : Reverse Tail) (e : Ending) → is_lt (compared x y) ≡ false → IsFamily y.0 → Among e (family y.0) → IsNotBehind (ending x.0) e
not_behind x y e fails is (inl same) =
    subst (λ f. IsNotBehind (ending x.0) f) same (IsNotBehind-from (ending x.0) (ending y.0) _ fails)
not_behind x y e fails is (inr later) =
    IsNotBehind-trans (ending x.0) (ending y.0) e (IsNotBehind-from (ending x.0) (ending y.0) _ fails) (All-at (IsNotBehind (ending y.0)) e _ is.order.0 later)

pub IsFirstOf-from : (x : Reverse Tail) (xs : List (Reverse Tail)) → 0 < length xs → x ≡ get_or xs 0 x → IsUpperBound compared x xs → All (λ (t : Reverse Tail). IsFamily t.0) xs → IsFirstOf (families xs) (ending x.0)
IsFirstOf-from x xs some is bound are = record {
  some = some_families xs some;
  stands = first_of_families x xs some is;
  first = All-from_among (IsNotBehind (ending x.0)) (families xs) (λ e h. (let r = from_flat_map (λ (t : Reverse Tail). family t.0) e xs h in not_behind x r.0 e (all_from_bound x r.0 xs bound r.1) (All-at (λ (t : Reverse Tail). IsFamily t.0) r.0 xs are r.1) r.2));
}

-- what `peek` gives
pub IfSome-peeked : (xs : List (Reverse Tail)) (r : Option (Bor (Reverse Tail))) → MatchOption r (length xs ≤ 0) (λ x. (0 < length xs) × HoldsAt (λ y. x.now ≡ y) xs 0) → IfSome r (λ x. x.now ≡ get_or xs 0 x.now) → IfSome r (λ x. IsHeap compared xs → IsUpperBound compared x.now xs) → IsQueue xs → IfSome r (λ x. IsFirstOf (families xs) (ending x.now.0))
IfSome-peeked xs None item is greatest queue = tt
IfSome-peeked xs (Some x) item is greatest queue =
    IsFirstOf-from x.now xs item.0 is (greatest queue.heap) queue.families

-- ---- The first tail leaves, and its next sibling comes

-- the first tail of a heap is held apart from the rest
pub record IsHeld (old rest : List (Reverse Tail)) (x : Reverse Tail) : Type 0 where
  pub first : x ≡ get_or old 0 x
  pub same : IsPermutation old (x ∷ rest)

module _ (old rest : List (Reverse Tail)) (x : Reverse Tail) (held : IsHeld old rest x) (queue : IsQueue old) where
  families_held : IsPermutation (families old) (family x.0 ++ families rest)
  families_held =
      IsPermutation-flat_map (λ (t : Reverse Tail). family t.0) old (x ∷ rest) held.same

  some_old : 0 < length old
  some_old = let n = length_permutation old (x ∷ rest) held.same in omega (arith, n)

  leads : get_or (families old) 0 no_ending ≡ ending x.0
  leads = first_of_families x old some_old held.first

  are : All (λ (t : Reverse Tail). IsFamily t.0) (x ∷ rest)
  are =
      All-permutation (λ (t : Reverse Tail). IsFamily t.0) old (x ∷ rest) held.same queue.families

  pub first_family : IsFamily x.0
  first_family = are 0 x (omega arith)

  -- the rest is left
  pub IsQueue-left : (new : List (Reverse Tail)) → IsPermutation rest new → IsHeap compared new → IsQueue new
  IsQueue-left new left heap =
      record { heap = heap; families = All-permutation (λ (t : Reverse Tail). IsFamily t.0) rest new left (λ k d inside. are (suc k) d (omega (arith, inside))) }

  -- or another tail takes its place
  pub IsQueue-replaced : (new : List (Reverse Tail)) (y : Reverse Tail) → IsFamily y.0 → IsPermutation (y ∷ rest) new → IsHeap compared new → IsQueue new
  IsQueue-replaced new y is placed heap =
      record { heap = heap; families = All-permutation (λ (t : Reverse Tail). IsFamily t.0) (y ∷ rest) new placed all }
    where
      all : All (λ (t : Reverse Tail). IsFamily t.0) (y ∷ rest)
      all zero d inside = is
      all (suc k) d inside = are (suc k) d (omega (arith, inside))

  pub loses_alone : (new : List (Reverse Tail)) → IsPermutation rest new → family x.0 ≡ ending x.0 ∷ [] → LosesFirst (families old) (families new)
  loses_alone new left alone =
      let parts : IsPermutation (families rest) (families new) = IsPermutation-flat_map (λ (t : Reverse Tail). family t.0) rest new left in
      subst (λ e. IsPermutation (families old) (e ∷ families new)) (sym leads) (IsPermutation-trans _ _ _ (subst (λ es. IsPermutation (families old) (es ++ families rest)) alone families_held) (IsPermutation-cons (ending x.0) _ _ parts))

  pub loses_first : (next : Tail) (new : List (Reverse Tail)) (y : Reverse Tail) → y.0 ≡ next → family x.0 ≡ ending x.0 ∷ family next → IsPermutation (y ∷ rest) new → LosesFirst (families old) (families new)
  loses_first next new y is splits pushed =
      let parts : IsPermutation (family next ++ families rest) (families new) = subst (λ t. IsPermutation (family t ++ families rest) (families new)) is (IsPermutation-flat_map (λ (t : Reverse Tail). family t.0) (y ∷ rest) new pushed) in
      subst (λ e. IsPermutation (families old) (e ∷ families new)) (sym leads) (IsPermutation-trans _ _ _ (subst (λ es. IsPermutation (families old) (es ++ families rest)) splits families_held) (IsPermutation-cons (ending x.0) _ _ parts))

pub IsFamily-next : (t next : Tail) → IsFamily t → family t ≡ ending t ∷ family next → 0 < length next.ordinals → IsFamily next
IsFamily-next t next is splits some =
    let order : IsInOrder (ending t ∷ family next) = subst (λ es. IsInOrder es) splits is.order in
    let small : All (λ (e : Ending). IsWithin (3 * most_reached) e.estimate) (ending t ∷ family next) = subst (λ es. All (λ (e : Ending). IsWithin (3 * most_reached) e.estimate) es) splits is.small in
    record { some = some; order = order.1; small = λ k d inside. small (suc k) d (omega (arith, inside)) }

-- a tail comes in
pub IsQueue-pushed : (old new : List (Reverse Tail)) (y : Reverse Tail) → IsQueue old → IsFamily y.0 → IsPermutation (y ∷ old) new → KeepsHeap compared old new → IsQueue new
IsQueue-pushed old new y queue is pushed keeps =
    record { heap = keeps queue.heap; families = All-permutation (λ (t : Reverse Tail). IsFamily t.0) (y ∷ old) new pushed all }
  where
    all : All (λ (t : Reverse Tail). IsFamily t.0) (y ∷ old)
    all zero d inside = is
    all (suc k) d inside = queue.families k d (omega (arith, inside))

-- a tail comes in, in the place of the one that left
pub Replaces-pushed : (old rest new : List (Reverse Tail)) (y : Reverse Tail) → LosesFirst (families old) (families rest) → IsPermutation (y ∷ rest) new → Replaces (families old) (family y.0) (families new)
Replaces-pushed old rest new y lost pushed = record {
  rest = families rest;
  was = lost;
  is = IsPermutation-trans _ _ _ (IsPermutation-append_comm (families rest) (family y.0)) (IsPermutation-flat_map (λ (t : Reverse Tail). family t.0) (y ∷ rest) new pushed);
}

pub IsQueue-empty : (xs : List (Reverse Tail)) → xs ≡ [] → IsHeap compared xs → IsQueue xs
IsQueue-empty xs none heap =
    record { heap = heap; families = subst (λ ys. All (λ (t : Reverse Tail). IsFamily t.0) ys) (sym none) (λ k d inside. absurd (omega (arith, inside))) }

-- the only tail of a queue
pub families-alone : (old new : List (Reverse Tail)) (y : Reverse Tail) → old ≡ [] → IsPermutation (y ∷ old) new → IsPermutation (family y.0) (families new)
families-alone old new y none pushed =
    let alone : families (y ∷ old) ≡ family y.0 = ap (λ ys. families (y ∷ ys)) none ∙ append-nil (family y.0) in
    subst (λ es. IsPermutation es (families new)) alone (IsPermutation-flat_map (λ (t : Reverse Tail). family t.0) (y ∷ old) new pushed)

pub none_of : (r : Option Tail) → ((t : Tail) → r ≢ Some t) → IsPermutation (family_of r) (families [])
none_of None none = IsPermutation-refl []
none_of (Some t) none = absurd (none t refl)
