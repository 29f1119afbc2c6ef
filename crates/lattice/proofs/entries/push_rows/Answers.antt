use Rattle.std.proofs.Common.{◌<◌, sym, subst, List, length}
use Rattle.std.specs.List.{All}
use Rattle.mz_base.specs.declared.data.Hit.{Hit}
use Rattle.lattice.proofs.GroupLemmas.{two_groups}
use Rattle.lattice.proofs.HitLemmas.{word_entries-hits}
use Rattle.lattice.proofs.PlaceLemmas.{hits_are_rows}
use Rattle.lattice.proofs.entries.push_rows.Goals as goal

pub push_words-requires : goal.push_words-requires
push_words-requires g c =
    let d = g.D.DataSet.lists c.args.set.now in
    subst (λ (hits : List Hit). All (λ (hit : Hit). hit.row < length d.words) hits) (sym c.requires.hits) (hits_are_rows d c.args.key.now c.args.begin c.args.end)

pub returns : goal.returns
returns g c =
    let d = g.D.DataSet.lists c.args.set.now in
    let spelt = word_entries-hits d c.args.key.now c.args.begin c.args.end c.args.hits.now c.requires.hits in
    two_groups _ _ _ _ _ _ c.in_ok-push_users.ensures c.in_ok-push_words.ensures spelt
