use Rattle.std.proofs.Common.{◌≡◌, ◌++◌, drop, map}
use Rattle.mz_base.specs.declared.data.Hit.{Hit}
use Rattle.conversion_meaning.specs.Entries.{word_entry}
use Rattle.lattice.proofs.sources.push_words.Given as goal

-- what was added, and then the entries of the hits that are left, are the entries of all
abbrev pub invariant-loop-hit : goal.invariant-loop-hit
invariant-loop-hit g l =
    let entry = λ (hit : Hit). word_entry (g.D.DataSet.lists l.set) l.begin hit.end hit.row in
    l.out.items ++ map entry (drop l.hit-index l.hits) ≡ l.initial.out.items ++ map entry l.hits
