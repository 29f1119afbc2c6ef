use Rattle.std.proofs.Common.{◌≡◌, ◌++◌, drop}
use Rattle.std.specs.Prelude.{encode_utf8_all}
use Rattle.std.specs.String.{string_bytes}
use Rattle.conversion_text.proofs.writer.print_letters.Given as goal

-- what is written, and then the letters that are left, is the whole
abbrev pub invariant-loop-letter : goal.invariant-loop-letter
invariant-loop-letter l =
    string_bytes l.out ++ encode_utf8_all (drop l.letter-index l.letters) ≡ string_bytes l.initial.out ++ encode_utf8_all l.letters
