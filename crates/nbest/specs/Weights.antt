-- How many tails a search may still look at, so that it ends.
use Rattle.std.specs.Prelude.{ℕ, zero, suc, ◌+◌, ◌-◌, List, length}
use Rattle.std.specs.List.{sum_by}
use Rattle.mz_base.specs.declared.lattice.Entry.{Entry}
use Rattle.mz_base.specs.declared.lattice.Lattice.{Lattice}
use Rattle.mz_base.specs.declared.lattice.Span.{Span}
use Rattle.mz_base.specs.declared.lattice.TheConstants.{MOST_KEY}
use Rattle.conversion_meaning.specs.Lattices.{entry}
use Rattle.nbest.specs.Searches.{begin_of, ordinals_to}
use Rattle.nbest.specs.Tails.{Ending}

-- a tail that begins here, and all that are longer, by at most so many entries
abbrev pub weight_from : ℕ → List Entry → List ℕ → Span → ℕ → ℕ
weight_from zero es by_end span here = 1
weight_from (suc most) es by_end span here =
    sum_by (λ o. weight_from most es by_end span (entry es o).begin) (ordinals_to es by_end span here) + 1

abbrev pub weight_of : Lattice → Span → Ending → ℕ
weight_of l span e =
    weight_from (MOST_KEY + 1 - length e.ordinals) l.entries l.by_end span (begin_of l.entries span.end e.ordinals)

unfoldable pub weight : Lattice → Span → List Ending → ℕ
weight l span queue = sum_by (weight_of l span) queue
