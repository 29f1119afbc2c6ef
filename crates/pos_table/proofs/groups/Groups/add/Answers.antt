use Rattle.std.proofs.Common.{◌≡◌, ◌∙◌, ◌++◌, ◌∷◌, [], List, ℕ, Vec, Global, ap}
use Rattle.std.specs.Map.{lookup}
use Rattle.std.specs.Option.{option_map_or}
use Rattle.std.specs.Str.{bytes_eq}
use Rattle.pos_table.proofs.GroupLemmas.{lookup-added}
use Rattle.pos_table.proofs.groups.Groups.add.Goals as goal

pub returns : goal.returns
returns c = λ text.
    let old = c.args.self.now.by_reading.entries in
    let reading = c.args.reading in
    let removed = rw c.as_slice.ensures.value at c.remove-taken.ensures.updates in
    let inserted = c.in_ok-insert.ensures.updates in
    let taken : c.remove-taken.result ≡ lookup (λ (k : Vec ℕ Global). bytes_eq reading.items k.items) old = rw c.as_slice.ensures.value at c.remove-taken.ensures.value in
    let values = c.values_or_new-values.ensures ∙ ap (λ taken. option_map_or (λ (values : Vec (List ℕ) Global). values.items) taken []) taken in
    lookup-added reading text old c.remove-taken.new.self.entries c.insert.new.self.entries c.push.new.self c.args.value removed.3 inserted.3 inserted.1 (c.in_ok-push.ensures.items ∙ ap (λ values. values ++ c.args.value ∷ []) values)
