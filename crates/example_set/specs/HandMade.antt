-- The entries of きょうは as tests write them by hand.
use Rattle.std.specs.Prelude.{List, map}
use Rattle.mz_base.specs.declared.lattice.Entry.{Entry}
use Rattle.mz_base.specs.declared.lattice.Source.TheVariants.{Char}
use Rattle.conversion_meaning.specs.Examples.{kyouha_entries}

-- the example's entries, each with the character as its source
abbrev pub kyouha_characters : List Entry
kyouha_characters = map (λ (entry : Entry). record entry { source = Char }) kyouha_entries
