use Rattle.std.proofs.Common.{option_map, sym, ap, ◌∙◌, option_copied}
use Rattle.keys.specs.NameRows.{NamedKey}
use Rattle.keys.proofs.NameLemmas.{key_among-find}
use Rattle.keys.proofs.key.named_key.Goals as goal

pub returns-in-Some : goal.returns-in-Some
returns-in-Some c =
    let found = sym (ap option_copied c.in-Some.is) ∙ c.row_of.ensures in
    ap (option_map (λ (row : NamedKey). row.1)) found ∙ sym (key_among-find c.args.rows.now c.args.name.now)

pub returns-in-None : goal.returns-in-None
returns-in-None c =
    let found = sym (ap option_copied c.in-None.is) ∙ c.row_of.ensures in
    ap (option_map (λ (row : NamedKey). row.1)) found ∙ sym (key_among-find c.args.rows.now c.args.name.now)
