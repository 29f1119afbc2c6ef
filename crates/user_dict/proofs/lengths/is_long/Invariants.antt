use Rattle.std.proofs.Common.{◌≡◌, ◌≤◌, encode_utf8_all, length, take}
use Rattle.mz_base.specs.declared.data.TheConstants.{MOST_FIELD_BYTES}
use Rattle.user_dict.proofs.lengths.is_long.Given as goal

-- the bytes of the characters so far, which are not too many
abbrev pub invariant-loop-letter : goal.invariant-loop-letter
invariant-loop-letter l =
    (l.bytes ≡ length (encode_utf8_all (take l.letter-index l.text))) × (l.bytes ≤ MOST_FIELD_BYTES)
