use Rattle.std.proofs.Common.{refl}
use Rattle.conversion_meaning.proofs.SomeLattice.{IsLatticeOf-some, some_lattice}
use Rattle.conversion_meaning.proofs.entries.keys_have_lattices.Goals as goal

pub returns : goal.returns
returns c = λ d rows key bounds is are.
    (some_lattice d rows key bounds, IsLatticeOf-some d rows key bounds is are, refl, refl)
