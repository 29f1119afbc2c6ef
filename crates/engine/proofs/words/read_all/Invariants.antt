use Rattle.std.proofs.Common.{◌≡◌, ◌+◌, [], drop}
use Rattle.engine.specs.Sets.{words_after}
use Rattle.engine.specs.Tables.{pointed}
use Rattle.engine.proofs.words.read_all.Given as goal

-- the rows so far, and then the files that are left, give what all files give
abbrev pub invariant-loop-index : goal.invariant-loop-index
invariant-loop-index l =
    words_after l.n_ids l.rows.items (l.index + 1) (pointed (drop l.index l.files)) ≡ words_after l.n_ids [] 1 (pointed l.files)
