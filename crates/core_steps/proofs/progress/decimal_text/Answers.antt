use Rattle.std.proofs.Common.{◌≡◌, ℕ, ◌<◌, ◌^◌, rules, arith}
use Rattle.std.specs.Fmt.{decimal}
use Rattle.std.specs.Str.{chars}
use Rattle.std.proofs.lemmas.Fmt.{IsAscii-decimal}
use Rattle.std.proofs.lemmas.Str.{chars-IsAscii}
use Rattle.core_steps.proofs.progress.decimal_text.Goals as goal

-- digits are the characters that they spell
chars-decimal : (n : ℕ) → n < 2 ^ 64 → chars (decimal n) ≡ decimal n
chars-decimal n small = chars-IsAscii _ (IsAscii-decimal n small)

pub returns : goal.returns
returns c =
    let spelled = chars-decimal c.args.number (omega arith) in
    let written : c.as_str.result.now ≡ decimal c.args.number = search rules in
    rw (written, spelled) at c.from_str.ensures
