use Rattle.romaji_table.proofs.RuleLaws.{RiseByInput-read, same-read}
use Rattle.romaji_table.proofs.laws.rows_rise.Goals as goal

pub returns : goal.returns
returns c = record { same = same-read; rise = RiseByInput-read }
