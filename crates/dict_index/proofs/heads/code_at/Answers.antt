use Rattle.std.proofs.Common.{◌≡◌, ◌∙◌, sym, ap, suc, ◌+◌, get_or, arith}
use Rattle.std.proofs.lemmas.Bool.Decides.{nat_tests}
use Rattle.dict_index.proofs.Codes.{code-none, code-some}
use Rattle.dict_index.proofs.heads.code_at.Goals as goal

pub returns-in-None : goal.returns-in-None
returns-in-None c =
    let past = c.in-None.ensures.lookup in
    sym (code-none c.args.text.now c.args.depth (grind (arith, nat_tests, past)))

pub returns-in-Some : goal.returns-in-Some
returns-in-Some c =
    let text = c.args.text.now in
    let depth = c.args.depth in
    let letter = c.in-Some.letter.now in
    let inside = c.in-Some.ensures.lookup.0 in
    let one : get_or text depth letter + 1 ≡ suc (get_or text depth letter) = omega arith in
    ap (λ n. n + 1) c.in-Some.ensures.lookup.1 ∙ one ∙ sym (code-some text depth letter (grind (arith, nat_tests, inside)))
