-- Backspace takes the one shown character before the cursor.
use Rattle.std.proofs.Common.{◌≡◌, ℕ, ◌+◌, ◌-◌, ◌<◌, true, ◌==◌, cond, List, [], ◌∷◌, ◌++◌, length, take, sym, ap, ◌∙◌, arith, append_assoc, append-nil, length-append}
use Rattle.std.proofs.Math.Seq.{take-append-add}
use Rattle.std.proofs.lemmas.Bool.{cond-false, ne_eqb}
use Rattle.mz_base.specs.Kana.{AreRules, kana, waits}
use Rattle.mz_base.specs.declared.romaji.Rule.{Rule}
use Rattle.mz_base.proofs.Turns.{kana-waits}
use Rattle.mz_base.proofs.Waiting.{pending-waits, waits-front}
use Rattle.composer.specs.Composing.{Composing, backspaced, front_of, preedit_of, without_last}

without_last-append : (xs ys : List ℕ) → 0 < length ys → without_last (xs ++ ys) ≡ xs ++ without_last ys
without_last-append xs ys some =
    let less : length (xs ++ ys) - 1 ≡ length xs + (length ys - 1) = omega (arith, length-append xs ys) in
    ap (λ n. take n (xs ++ ys)) less ∙ take-append-add xs ys (length ys - 1)

-- what is pending is taken first, then what stands before it
front-less : (left output pending : List ℕ) → cond (length pending == 0) (without_last (left ++ output)) (left ++ output) ++ without_last pending ≡ without_last (left ++ (output ++ pending))
front-less left output [] =
    append-nil (without_last (left ++ output)) ∙ ap (λ shown. without_last (left ++ shown)) (sym (append-nil output))
front-less left output (c ∷ pending) =
    ap (λ front. front ++ without_last (c ∷ pending)) (cond-false (length (c ∷ pending) == 0) _ _ (ne_eqb _ _ (λ none. omega arith)))
    ∙ sym (without_last-append (left ++ output) (c ∷ pending) (omega arith))
    ∙ ap without_last (append_assoc left output (c ∷ pending))

pub backspaced-shows : (rules : List Rule) (c : Composing) → AreRules rules → preedit_of rules (backspaced rules c) ≡ without_last (front_of rules c) ++ c.right
backspaced-shows rules c sound =
    let pending : List ℕ = (kana rules c.run).pending in
    let output : List ℕ = (kana rules c.run).output in
    let left : List ℕ = cond (length pending == 0) (without_last (c.left ++ output)) (c.left ++ output) in
    let waiting : waits rules (without_last pending) ≡ true = waits-front (length pending - 1) rules pending (omega arith) (pending-waits rules c.run sound.each) in
    ap (λ shown. (left ++ (shown.output ++ shown.pending)) ++ c.right) (kana-waits rules (without_last pending) waiting)
    ∙ ap (λ front. front ++ c.right) (front-less c.left output pending)
