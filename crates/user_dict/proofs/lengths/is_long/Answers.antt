use Rattle.std.proofs.Common.{◌+◌, ◌<◌, encode_utf8_all, length, sym, ap, arith}
use Rattle.std.specs.Char.{len_utf8}
use Rattle.std.proofs.lemmas.Bool.{lt-ltb}
use Rattle.mz_base.specs.declared.data.TheConstants.{MOST_FIELD_BYTES}
use Rattle.user_dict.proofs.RowLemmas.{bytes-more, front-bytes}
use Rattle.user_dict.proofs.lengths.is_long.Goals as goal

pub returns-then-bytes-gt-MOST_FIELD_BYTES : goal.returns-then-bytes-gt-MOST_FIELD_BYTES
returns-then-bytes-gt-MOST_FIELD_BYTES c =
    let text = c.args.text.now in
    let place = c.loop-letter.letter-index in
    let more = bytes-more text place c.letter-item.result c.loop-letter-test.true in
    let letter = ap (λ l. len_utf8 l) c.letter-item.is in
    let past : MOST_FIELD_BYTES < length (encode_utf8_all text) =
    omega (arith, c.loop-letter.invariant.0, more, letter, c.len_utf8-bytes.ensures.value, front-bytes text (place + 1), c.if-bytes-gt-MOST_FIELD_BYTES.true) in
    sym (lt-ltb MOST_FIELD_BYTES (length (encode_utf8_all text)) past)

pub loop-letter-preserved : goal.loop-letter-preserved
loop-letter-preserved c =
    let text = c.args.text.now in
    let more = bytes-more text c.loop-letter.letter-index c.letter-item.result c.loop-letter-test.true in
    let letter = ap (λ l. len_utf8 l) c.letter-item.is in (
      omega (arith, c.loop-letter.invariant.0, more, letter, c.len_utf8-bytes.ensures.value),
      omega (arith, c.if-bytes-gt-MOST_FIELD_BYTES.false),
    )
