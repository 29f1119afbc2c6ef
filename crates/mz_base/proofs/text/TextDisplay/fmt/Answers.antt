use Rattle.std.proofs.Common.{◌≡◌, ℕ, ◌+◌, ◌<◌, List, [], ◌∷◌, ◌++◌, length, take, get_or, encode_utf8, encode_utf8_all, rules, append-nil}
use Rattle.std.proofs.Output.{has_written_append, has_written_of_eq}
use Rattle.std.proofs.lemmas.List.{take_more}
use Rattle.std.proofs.lemmas.Str.{encodes-append}
use Rattle.mz_base.proofs.text.TextDisplay.fmt.Goals as goal

encode_utf8_all-take : (cs : List ℕ) (i c : ℕ) → i < length cs → c ≡ get_or cs i c → encode_utf8_all (take i cs) ++ encode_utf8 c ≡ encode_utf8_all (take (i + 1) cs)
encode_utf8_all-take cs i c inside is =
    rw (take_more cs i c inside, ← is, encodes-append (take i cs) (c ∷ [])) (rw append-nil)

pub loop-letter-preserved : goal.loop-letter-preserved
loop-letter-preserved g c p =
    has_written_of_eq _ _ _ _ _ (encode_utf8_all-take _ _ _ (search rules) c.letter-item.is) (has_written_append _ _ _ _ _ _ (c.loop-letter.invariant p) (search rules))
