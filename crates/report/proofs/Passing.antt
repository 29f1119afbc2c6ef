-- A text that passes the limit, and more after it.
use Rattle.std.proofs.Common.{◌≡◌, ◌++◌, ◌<◌, List, ℕ, length, subst, arith, length-append, append_assoc, ap, ◌∙◌}
use Rattle.std.specs.Prelude.{Result, Ok, Err}
use Rattle.report.specs.Printed.{Adds}
use Rattle.report.specs.declared.error.PrintError.{PrintError}
use Rattle.report.specs.declared.error.PrintError.TheVariants.{TooLarge, NoMemory}
use Rattle.report.specs.declared.room.TheConstants.{MOST_REPORT_BYTES}

-- a text passes the limit where its front does
pub passes_with_more : (whole front more : List ℕ) → front ++ more ≡ whole → MOST_REPORT_BYTES < length front → MOST_REPORT_BYTES < length whole
passes_with_more whole front more joined passes =
    subst (λ text. MOST_REPORT_BYTES < length text) joined (omega (arith, passes, length-append front more))

-- what does not fit does not fit with more after it
pub fails_with_more : (start whole before text more after end : List ℕ) (error : PrintError) → before ++ (text ++ more) ≡ start ++ whole → Adds {A = Unit {0}} before text (Err error) after → Adds {A = Unit {0}} start whole (Err error) end
fails_with_more start whole before text more after end TooLarge joined passes =
    passes_with_more (start ++ whole) (before ++ text) more (append_assoc before text more ∙ joined) passes
fails_with_more start whole before text more after end NoMemory joined passes = tt

-- what comes after a heading comes after what was there with the heading
pub comes_after : (before heading text front end : List ℕ) (result : Result (Unit {0}) PrintError) → front ≡ before ++ heading → Adds {A = Unit {0}} front text result end → Adds {A = Unit {0}} before (heading ++ text) result end
comes_after before heading text front end (Ok done) headed added =
    (added.0 ∙ (ap (λ start. start ++ text) headed ∙ append_assoc before heading text), added.1)
comes_after before heading text front end (Err TooLarge) headed passes =
    subst (λ whole. MOST_REPORT_BYTES < length whole) (ap (λ start. start ++ text) headed ∙ append_assoc before heading text) passes
comes_after before heading text front end (Err NoMemory) headed passes = tt
