use Rattle.std.proofs.Common.{◌≡◌, ℕ, List, Result, Ok, Err, MatchResult, Bor}
use Rattle.std.specs.Option.{option_copied}
use Rattle.std.specs.Result.{result_ok}
use Rattle.std.specs.Str.{IsUtf8}
use Rattle.std.proofs.lemmas.Bool.{false_from_ne_true}
use Rattle.std.proofs.lemmas.Str.{IsUtf8-from_is_utf8, is_utf8-from_IsUtf8}
use Rattle.mz_base.specs.Lines.{text_line}
use Rattle.mz_base.proofs.lines.text_of_line.Goals as goal

text_line-tested : {E : Type 0} (Fault : E → Type 0) (line : List ℕ) (r : Result (Bor (List ℕ)) E) → MatchResult r (λ s. (s.now ≡ line) × IsUtf8 line) (λ e. (¬ IsUtf8 line) × Fault e) → option_copied (result_ok r) ≡ text_line line
text_line-tested Fault line (Ok s) (same, utf8) = rw (is_utf8-from_IsUtf8 line utf8, same)
text_line-tested Fault line (Err e) (not_utf8, _) =
    rw (false_from_ne_true _ (λ is. not_utf8 (IsUtf8-from_is_utf8 line is)))

pub returns : goal.returns
returns c = rw c.ok.ensures.value (text_line-tested _ c.args.line.now _ c.from_utf8.ensures.cases)
