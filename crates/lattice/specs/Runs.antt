-- Where runs begin: docs/CONVERSION.md, "Entries".
use Rattle.std.specs.Prelude.{ℕ, Bool, ◌&&◌, List}
use Rattle.conversion_meaning.specs.Entries.{class_at, makes_runs, starts_run}

-- a run that is an entry may begin here
abbrev pub may_begin_run : List ℕ → ℕ → Bool
may_begin_run key begin =
    let class = class_at key begin in
    makes_runs class && starts_run class key begin
