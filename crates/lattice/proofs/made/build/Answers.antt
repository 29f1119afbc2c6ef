use Rattle.std.proofs.Common.{rules, ap, ◌∙◌, length, arith}
use Rattle.mz_base.specs.declared.lattice.Lattice.{Lattice}
use Rattle.conversion_meaning.proofs.Counts.{entries-few}
use Rattle.conversion_meaning.proofs.EntryLemmas.{IsWellFormed-from_entries}
use Rattle.conversion_meaning.specs.Lattices.{IsLatticeOf}
use Rattle.lattice.proofs.MadeLemmas.{ends_inside}
use Rattle.lattice.proofs.made.build.Goals as goal

pub by_end-requires-clause-few : goal.by_end-requires-clause-few
by_end-requires-clause-few g c =
    let d = g.D.DataSet.lists c.args.set.now in
    let rows = g.U.UserWords.rows c.args.user.now in
    let few = entries-few d rows c.args.key.now c.args.bounds.now (g.met.D.DataSet.sound c.args.set.now) (g.met.U.UserWords.few c.args.user.now) c.requires.key in
    let same = ap length (c.as_slice.ensures.value ∙ c.in_ok-entries.ensures) in
    omega (arith, few, same)

pub by_end-requires-clause-inside : goal.by_end-requires-clause-inside
by_end-requires-clause-inside g c =
    let d = g.D.DataSet.lists c.args.set.now in
    let rows = g.U.UserWords.rows c.args.user.now in
    let made = c.as_slice.ensures.value ∙ c.in_ok-entries.ensures in
    ends_inside d rows c.args.key.now c.args.bounds.now _ (g.met.D.DataSet.sound c.args.set.now) made

pub returns-clause-well_formed : goal.returns-clause-well_formed
returns-clause-well_formed g c =
    let d = g.D.DataSet.lists c.args.set.now in
    let rows = g.U.UserWords.rows c.args.user.now in
    let l : Lattice = record { key = c.from_vec.result; bounds = c.from_vec-2.result; entries = c.from_vec-3.result; by_end = c.from_vec-4.result } in
    let made : IsLatticeOf d rows l = search rules in
    IsWellFormed-from_entries d rows l (g.met.D.DataSet.sound c.args.set.now) made
