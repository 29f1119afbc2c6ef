use Rattle.std.proofs.Common.{◌∙◌, ℕ, Vec, Global, ap}
use Rattle.std.specs.Map.{lookup}
use Rattle.std.specs.Option.{option_map_or}
use Rattle.std.specs.Str.{bytes_eq}
use Rattle.user_dict.proofs.CountLemmas.{one-more}
use Rattle.user_dict.proofs.counts.Counts.add.Goals as goal

pub returns : goal.returns
returns c = λ text.
    let old = c.args.self.now.by_reading.entries in
    let key = c.args.reading in
    let inserted = c.in_ok-insert.ensures.updates in
    let count = c.get-count.ensures ∙ ap (λ letters. option_map_or (λ n. n) (lookup (λ (k : Vec ℕ Global). bytes_eq letters k.items) old) 0) c.as_slice.ensures.value in
    one-more key text old c.insert.new.self.entries c.get-count.result inserted.3 inserted.1 count
