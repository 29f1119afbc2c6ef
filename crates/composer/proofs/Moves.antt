-- What a move and delete leave: the run is fixed, so that the reading is shown.
use Rattle.std.proofs.Common.{◌≡◌, ℕ, ◌+◌, ◌-◌, ◌<◌, List, [], ◌++◌, length, take, drop, refl, sym, ap, ◌∙◌, arith, append_assoc, append-nil, length-drop}
use Rattle.std.proofs.Math.Seq.{drop-append-add, drop-append_seam, take-append_seam}
use Rattle.std.proofs.lemmas.List.{take-append-drop}
use Rattle.mz_base.specs.Kana.{finish}
use Rattle.mz_base.specs.declared.romaji.Rule.{Rule}
use Rattle.mz_base.proofs.Turns.{kana-waits}
use Rattle.composer.specs.Composing.{Composing, cursor_of, deleted, fixed, last_of, moved_end, moved_home, moved_left, moved_right, preedit_of, reading_of, without_last}

-- a composition without a run
abbrev still : List ℕ → List ℕ → Composing
still left right = record { left = left; run = []; right = right }

finish-none : (rules : List Rule) → finish rules [] ≡ []
unfolding finish
finish-none rules = refl

preedit-still : (rules : List Rule) (left right : List ℕ) → preedit_of rules (still left right) ≡ left ++ right
preedit-still rules left right =
    ap (λ shown. (left ++ (shown.output ++ shown.pending)) ++ right) (kana-waits rules [] refl)
    ∙ ap (λ front. front ++ right) (append-nil left)

reading-still : (rules : List Rule) (left right : List ℕ) → reading_of rules (still left right) ≡ left ++ right
reading-still rules left right =
    ap (λ finished. (left ++ finished) ++ right) (finish-none rules) ∙ ap (λ front. front ++ right) (append-nil left)

cursor-still : (rules : List Rule) (left right : List ℕ) → cursor_of rules (still left right) ≡ length left
cursor-still rules left right =
    ap (λ shown. length (left ++ (shown.output ++ shown.pending))) (kana-waits rules [] refl) ∙ ap length (append-nil left)

module _ (rules : List Rule) (c : Composing) where
  -- what stands before the cursor, once the run is fixed
  abbrev before : List ℕ
  before = c.left ++ finish rules c.run

  pub left-shows : preedit_of rules (moved_left rules c) ≡ reading_of rules c
  left-shows =
      preedit-still rules (without_last before) (last_of before ++ c.right)
      ∙ sym (append_assoc (without_last before) (last_of before) c.right)
      ∙ ap (λ front. front ++ c.right) (take-append-drop (length before - 1) before)

  pub right-shows : preedit_of rules (moved_right rules c) ≡ reading_of rules c
  right-shows =
      preedit-still rules (before ++ take 1 c.right) (drop 1 c.right)
      ∙ append_assoc before (take 1 c.right) (drop 1 c.right)
      ∙ ap (λ rest. before ++ rest) (take-append-drop 1 c.right)

  pub home-shows : preedit_of rules (moved_home rules c) ≡ reading_of rules c
  home-shows = preedit-still rules [] (before ++ c.right)

  pub end-shows : preedit_of rules (moved_end rules c) ≡ reading_of rules c
  end-shows = preedit-still rules (before ++ c.right) [] ∙ append-nil (before ++ c.right)

  pub deleted-reads : reading_of rules (deleted rules c) ≡ take (cursor_of rules (fixed rules c)) (reading_of rules c) ++ drop (cursor_of rules (fixed rules c) + 1) (reading_of rules c)
  deleted-reads =
      reading-still rules before (drop 1 c.right)
      ∙ ap (λ front. front ++ drop 1 c.right) (sym (take-append_seam before c.right))
      ∙ ap (λ rest. take (length before) (before ++ c.right) ++ rest) (sym (drop-append-add before c.right 1))
      ∙ ap (λ n. take n (before ++ c.right) ++ drop (n + 1) (before ++ c.right)) (sym (cursor-still rules before c.right))

-- the character that went over the cursor is the first one there
crossed : (text right : List ℕ) → 0 < length text → (take 1 (last_of text ++ right) ≡ last_of text) × (drop 1 (last_of text ++ right) ≡ right)
crossed text right some =
    let one : length (last_of text) ≡ 1 = omega (arith, length-drop (length text - 1) text) in (
      ap (λ n. take n (last_of text ++ right)) (sym one) ∙ take-append_seam (last_of text) right,
      ap (λ n. drop n (last_of text ++ right)) (sym one) ∙ drop-append_seam (last_of text) right,
    )

pub left-right : (rules : List Rule) (c : Composing) → 0 < length (fixed rules c).left → moved_right rules (moved_left rules c) ≡ fixed rules c
left-right rules c some =
    let text : List ℕ = c.left ++ finish rules c.run in
    let over : (take 1 (last_of text ++ c.right) ≡ last_of text) × (drop 1 (last_of text ++ c.right) ≡ c.right) = crossed text c.right some in
    let front : (without_last text ++ finish rules []) ++ take 1 (last_of text ++ c.right) ≡ text =
    ap (λ finished. (without_last text ++ finished) ++ take 1 (last_of text ++ c.right)) (finish-none rules)
    ∙ ap (λ kept. kept ++ take 1 (last_of text ++ c.right)) (append-nil (without_last text))
    ∙ ap (λ crossing. without_last text ++ crossing) over.0
    ∙ take-append-drop (length text - 1) text in
    ap (λ left. still left (drop 1 (last_of text ++ c.right))) front ∙ ap (λ right. still text right) over.1
