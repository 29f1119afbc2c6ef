use Rattle.std.proofs.Common.{arith, ap, length}
use Rattle.std.proofs.lemmas.Grind.{common_steps}
use Rattle.dict_index.proofs.PackedTexts.{length-texts_of}
use Rattle.dict_index.proofs.packed.Packed.len.Goals as goal

pub returns : goal.returns
returns c =
    let many = ap (λ texts. length texts) c.self.view_is in
    let each = length-texts_of c.self.inside.letters.items c.self.inside.starts.items in
    grind (arith, common_steps, many, each, c.len.ensures)
