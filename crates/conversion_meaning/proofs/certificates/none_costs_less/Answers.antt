use Rattle.std.proofs.Common.{sym, subst, List, None, arith}
use Rattle.std.proofs.lemmas.Int.{ints}
use Rattle.mz_base.specs.declared.lattice.Entry.{Entry}
use Rattle.conversion_meaning.specs.Lattices.{no_entry}
use Rattle.conversion_meaning.proofs.Duality.{AreForward, total-le}
use Rattle.conversion_meaning.proofs.certificates.none_costs_less.Goals as goal

pub returns : goal.returns
returns _ = λ l c other well same certificate joined.
    let forward : AreForward c.entries = subst (λ (es : List Entry). AreForward es) (sym same) (λ o inside. (well.entries o no_entry inside).forward) in
    let least = total-le c forward certificate.edges None other tt (omega arith) joined in
    omega (arith, ints)
