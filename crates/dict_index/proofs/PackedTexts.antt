-- What is read of packed texts, and what one more text makes of them.
use Rattle.std.proofs.Common.{◌≡◌, ℕ, zero, suc, ◌+◌, ◌-◌, ◌<◌, ◌≤◌, List, [], ◌∷◌, ◌++◌, length, get_or, take, drop, refl, sym, ap, ◌∙◌, arith, add-one, length-append, length-drop}
use Rattle.std.specs.List.{slice_range}
use Rattle.std.proofs.lemmas.List.{get_or_default, get_or_past, drop_at, drop-append-le, drop-take, take-append-le, take_rest}
use Rattle.dict_index.specs.Packed.{IsPacked, RiseTo, texts_from, texts_of}

-- the first place is no later than the last
pub RiseTo-first : (first : ℕ) (places : List ℕ) (last : ℕ) → RiseTo first places last → first ≤ last
RiseTo-first first [] last is = omega (arith, is)
RiseTo-first first (next ∷ places) last (up, rest) =
    let less = RiseTo-first next places last rest in omega (arith, up, less)

-- a later place goes behind the last
pub RiseTo-more : (first : ℕ) (places : List ℕ) (last more : ℕ) → RiseTo first places last → last ≤ more → RiseTo first (places ++ more ∷ []) more
RiseTo-more first [] last more is up = (omega (arith, is, up), refl)
RiseTo-more first (next ∷ places) last more (less, rest) up = (less, RiseTo-more next places last more rest up)

-- a text that lies among the characters stays where more follow
pub slice_range-append : (letters text : List ℕ) (start end : ℕ) → start ≤ end → end ≤ length letters → slice_range (letters ++ text) start end ≡ slice_range letters start end
slice_range-append letters text start end up within =
    let front = drop-append-le start letters text (omega arith) in
    ap (λ xs. take (end - start) xs) front ∙ take-append-le (end - start) (drop start letters) text (omega (arith, length-drop start letters))

-- what ends at the last character is what remains
pub slice_range-last : (letters text : List ℕ) (start : ℕ) → start ≡ length letters → slice_range (letters ++ text) start (length (letters ++ text)) ≡ text
slice_range-last letters text start is =
    take_rest (letters ++ text) start ∙ drop_at letters text start (sym is)

texts_from-more : (letters text : List ℕ) (start : ℕ) (ends : List ℕ) → RiseTo start ends (length letters) → texts_from (letters ++ text) start (ends ++ length (letters ++ text) ∷ []) ≡ texts_from letters start ends ++ text ∷ []
texts_from-more letters text start [] is = ap (λ last. last ∷ []) (slice_range-last letters text start is)
texts_from-more letters text start (end ∷ ends) (up, rest) =
    let within = RiseTo-first end ends (length letters) rest in
    let same = slice_range-append letters text start end up within in
    rw (same, texts_from-more letters text end ends rest) refl

-- one more text
pub IsPacked-more : (letters text starts : List ℕ) → IsPacked letters starts → IsPacked (letters ++ text) (starts ++ length (letters ++ text) ∷ [])
IsPacked-more letters text [] packed = absurd packed
IsPacked-more letters text (start ∷ starts) packed =
    RiseTo-more start starts (length letters) (length (letters ++ text)) packed (omega (arith, length-append letters text))

pub texts_of-more : (letters text starts : List ℕ) → IsPacked letters starts → texts_of (letters ++ text) (starts ++ length (letters ++ text) ∷ []) ≡ texts_of letters starts ++ text ∷ []
texts_of-more letters text [] packed = absurd packed
texts_of-more letters text (start ∷ starts) packed = texts_from-more letters text start starts packed

-- how many texts there are
length-texts_from : (letters : List ℕ) (start : ℕ) (ends : List ℕ) → length (texts_from letters start ends) ≡ length ends
length-texts_from letters start [] = refl
length-texts_from letters start (end ∷ ends) = ap (λ n. suc n) (length-texts_from letters end ends)

pub length-texts_of : (letters starts : List ℕ) → length (texts_of letters starts) ≡ length starts - 1
length-texts_of letters [] = refl
length-texts_of letters (start ∷ starts) = length-texts_from letters start starts ∙ omega arith

pub none_past : (letters starts : List ℕ) (i : ℕ) → length starts ≤ i + 1 → get_or (texts_of letters starts) i [] ≡ []
none_past letters starts i past =
    get_or_past (texts_of letters starts) i [] (omega (arith, length-texts_of letters starts))

-- a text lies between where it starts and where the next one does
text_from : (letters : List ℕ) (start : ℕ) (ends : List ℕ) (i : ℕ) → RiseTo start ends (length letters) → i < length ends → (get_or (start ∷ ends) i 0 ≤ get_or ends i 0) × (get_or ends i 0 ≤ length letters) × (get_or (texts_from letters start ends) i [] ≡ slice_range letters (get_or (start ∷ ends) i 0) (get_or ends i 0))
text_from letters start [] i rise inside = absurd (omega arith)
text_from letters start (end ∷ ends) zero (up, rest) inside =
    (up, RiseTo-first end ends (length letters) rest, refl)
text_from letters start (end ∷ ends) (suc i) (up, rest) inside =
    text_from letters end ends i rest (omega arith)

pub text_at_place : (letters starts : List ℕ) (i : ℕ) → IsPacked letters starts → i + 1 < length starts → (get_or starts i 0 ≤ get_or starts (i + 1) 0) × (get_or starts (i + 1) 0 ≤ length letters) × (get_or (texts_of letters starts) i [] ≡ slice_range letters (get_or starts i 0) (get_or starts (i + 1) 0))
text_at_place letters [] i packed inside = absurd packed
text_at_place letters (start ∷ starts) i packed inside =
    rw add-one (text_from letters start starts i packed (omega arith))

-- cut at the end, then at the start
pub slice_range-cut : (letters : List ℕ) (start end : ℕ) → start ≤ end → drop start (take end letters) ≡ slice_range letters start end
slice_range-cut letters start end up =
    let is : start + (end - start) ≡ end = omega arith in
    ap (λ n. drop start (take n letters)) (sym is) ∙ drop-take start (end - start) letters

-- what is read at a place and at the next bounds the text at that place
pub text_read : (letters starts : List ℕ) (i start end : ℕ) → IsPacked letters starts → i + 1 < length starts → start ≡ get_or starts i start → end ≡ get_or starts (i + 1) end → (start ≤ end) × (end ≤ length letters) × (get_or (texts_of letters starts) i [] ≡ slice_range letters start end)
text_read letters starts i start end packed inside first second =
    let from : get_or starts i 0 ≡ start =
    get_or_default starts i 0 start (omega arith) ∙ sym first in
    let to : get_or starts (i + 1) 0 ≡ end = get_or_default starts (i + 1) 0 end inside ∙ sym second in
    let (up, within, is) = text_at_place letters starts i packed inside in
    (omega (arith, up, from, to), omega (arith, within, to), is ∙ ap (λ n. slice_range letters n (get_or starts (i + 1) 0)) from ∙ ap (λ n. slice_range letters start n) to)
