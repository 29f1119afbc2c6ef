-- A turn of a run that is becoming kana.
use Rattle.std.proofs.Common.{◌≡◌, true, false, append-nil, ℕ, ◌≤◌, ◌<◌, List, [], ◌∷◌, ◌++◌, Some, length, refl, sym, ap, ◌∙◌, subst, arith, append_assoc, IfSome}
use Rattle.mz_base.specs.Kana.{AreRules, Shows, Shown, after_output, finish, kana, longest, turn, waits}
use Rattle.mz_base.specs.declared.romaji.Rule.{Rule}
use Rattle.mz_base.specs.declared.romaji.RuleView.{RuleView}
use Rattle.mz_base.proofs.Turns.{FitsRule, longest-FitsRule, fits-length, kana-waits, kana-goes_on, finish-goes_on}
use Rattle.mz_base.proofs.Waiting.{after_output-after_output}

-- the rule that a look-up lends is no longer than the text, and leaves less pending than it takes
module _ (rules : List Rule) (text : List ℕ) (view : RuleView) (sound : AreRules rules) (shows : Shows (Some view) (longest rules text)) where
  found-fits : FitsRule text shows.0
  found-fits = subst (λ found. IfSome found (FitsRule text)) shows.1 (longest-FitsRule rules text sound.each)

  pub view-fits : view.length ≤ length text
  view-fits = omega (arith, shows.2.length_is, fits-length text shows.0 found-fits.is_prefix)

  pub view-shorter : length view.pending.now < view.length
  view-shorter = omega (arith, shows.2.length_is, ap length shows.2.pending_is, found-fits.is_rule.shorter)

-- a turn makes more of the same kana
pub kana-step : (rules : List Rule) (before now whole : Shown) → AreRules rules → waits rules before.pending ≡ false → now ≡ after_output before.output (turn (longest rules before.pending) before.pending) → after_output before.output (kana rules before.pending) ≡ whole → after_output now.output (kana rules now.pending) ≡ whole
kana-step rules before now whole sound going turned invariant =
    subst (λ shown. after_output shown.output (kana rules shown.pending) ≡ whole) (sym turned)
    (after_output-after_output before.output (turn (longest rules before.pending) before.pending).output (kana rules (turn (longest rules before.pending) before.pending).pending)
    ∙ ap (after_output before.output) (sym (kana-goes_on rules sound.each before.pending going)) ∙ invariant)

-- where more may come, the kana are made
pub kana-made : (rules : List Rule) (now whole : Shown) → waits rules now.pending ≡ true → after_output now.output (kana rules now.pending) ≡ whole → now ≡ whole
kana-made rules now whole waiting invariant =
    ap (λ output. let s : Shown = record { output = output; pending = now.pending } in s) (sym (append-nil now.output))
    ∙ ap (after_output now.output) (sym (kana-waits rules now.pending waiting))
    ∙ invariant

-- a turn makes more of the same finished text
pub finish-step : (rules : List Rule) (before now : Shown) (whole : List ℕ) → AreRules rules → 0 < length before.pending → now ≡ after_output before.output (turn (longest rules before.pending) before.pending) → before.output ++ finish rules before.pending ≡ whole → now.output ++ finish rules now.pending ≡ whole
finish-step rules before now whole sound some turned invariant =
    subst (λ shown. shown.output ++ finish rules shown.pending ≡ whole) (sym turned)
    (append_assoc before.output (turn (longest rules before.pending) before.pending).output (finish rules (turn (longest rules before.pending) before.pending).pending)
    ∙ ap (λ rest. before.output ++ rest) (sym (finish-goes_on rules sound.each before.pending some)) ∙ invariant)

finish-ends : (rules : List Rule) (text : List ℕ) → length text ≡ 0 → finish rules text ≡ []
unfolding finish
finish-ends rules [] empty = refl
finish-ends rules (c ∷ text) empty = absurd (omega arith)

-- where no text is left, the text is finished
pub finish-made : (rules : List Rule) (now : Shown) (whole : List ℕ) → length now.pending ≡ 0 → now.output ++ finish rules now.pending ≡ whole → now.output ≡ whole
finish-made rules now whole empty invariant =
    sym (append-nil now.output) ∙ ap (λ rest. now.output ++ rest) (sym (finish-ends rules now.pending empty)) ∙ invariant
