use Rattle.std.proofs.Common.{◌≡◌, Some, ap, ◌∙◌, encode_utf8_all, bytes_eq, if◌then◌else◌}
use Rattle.std.specs.String.{string_bytes}
use Rattle.std.proofs.lemmas.Map.Text.{hash_map_updates_text}
use Rattle.schedule.specs.Names.{noted}
use Rattle.schedule.proofs.numbers.Numbers.put.Goals as goal

pub returns : goal.returns
returns c = λ field.
    let key = string_bytes c.in_ok-key.key in
    let spelled : key ≡ encode_utf8_all c.args.name.now = c.in_ok-key.ensures.ok in
    hash_map_updates_text key c.args.self.now.by_name c.insert.new.self (Some c.args.number) c.in_ok-insert.ensures.updates field
    ∙ ap (λ bytes. if bytes_eq bytes field then Some c.args.number else noted c.args.self.now field) spelled
