use Rattle.std.proofs.Common.{◌∙◌, map}
use Rattle.conversion_meaning.specs.SmallLattices.{small_entry}
use Rattle.conversion_meaning.proofs.WellTests.{IsWellFormed-of}
use Rattle.conversion_meaning.specs.Examples.{set}
use Rattle.example_set.proofs.lattices.lattice_of.Goals as goal

pub returns-clause-well_formed : goal.returns-clause-well_formed
returns-clause-well_formed c =
    IsWellFormed-of set (record { key = c.from_vec.result; bounds = c.from_vec-2.result; entries = c.from_vec-3.result; by_end = c.from_vec-4.result }) c.args.key.now (map small_entry c.args.rows.now) c.args.by_end.now (c.from_vec.ensures ∙ c.in_ok-from_slice.ensures.items) (c.from_vec-2.ensures ∙ c.new.ensures.items) (c.from_vec-3.ensures ∙ c.in_ok-entries_of.ensures) (c.from_vec-4.ensures ∙ c.in_ok-from_slice-2.ensures.items) c.requires
