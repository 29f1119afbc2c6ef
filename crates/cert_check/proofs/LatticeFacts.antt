-- What a well-formed lattice gives, and what a verdict on it says of all paths.
use Rattle.std.specs.List.{range_with_len}
use Rattle.std.proofs.Common.{◌≡◌, refl, sym, ap, ◌∙◌, subst, ℕ, ◌+◌, List, length, None, Result, Ok, Err, arith}
use Rattle.std.specs.Prelude.{ℤ, pos, ◌≤ℤ◌, OnOk}
use Rattle.std.proofs.lemmas.Int.{ints}
use Rattle.mz_base.specs.Data.{DataLists}
use Rattle.mz_base.specs.declared.lattice.Entry.{Entry}
use Rattle.mz_base.specs.declared.lattice.Lattice.{Lattice}
use Rattle.mz_base.specs.declared.lattice.Span.{Span}
use Rattle.mz_base.specs.declared.status.CertFault.{CertFault}
use Rattle.conversion_meaning.specs.Lattices.{IsWellFormed, no_entry}
use Rattle.conversion_meaning.specs.Paths.{IsPath, IsPathOver, cost_between, path_cost}
use Rattle.conversion_meaning.specs.Potentials.{ordinals_in}
use Rattle.conversion_meaning.specs.Verdicts.{IsVerdict}
use Rattle.conversion_meaning.proofs.Duality.{AreForward, total-le}
use Rattle.conversion_meaning.proofs.LatticeLemmas.{ordinals_in-whole}
use Rattle.cert_check.specs.declared.edge.Target.{Target}
use Rattle.cert_check.specs.Claims.{AreReady, IsWhole, claimed}

-- all entries are entries of the whole key
all_in : (d : DataLists) (l : Lattice) (span : Span) → IsWellFormed d l → IsWhole d l span → ordinals_in l.entries span ≡ range_with_len 0 (length l.entries)
unfolding ordinals_in
all_in d l span well all = over span all.begin all.end
  where
    over : (s : Span) → s.begin ≡ 0 → s.end ≡ length l.key → ordinals_in l.entries s ≡ range_with_len 0 (length l.entries)
    over s begin end =
        ap (λ b. ordinals_in l.entries (record { begin = b; end = s.end; left = s.left; right = s.right })) begin ∙ (ap (λ e. ordinals_in l.entries (record { begin = 0; end = e; left = s.left; right = s.right })) end ∙ ordinals_in-whole d l s.left well)

-- a well-formed lattice can be judged of
pub AreReady-lattice : (d : DataLists) (l : Lattice) (span : Span) (total : ℤ) → IsWellFormed d l → IsWhole d l span → AreReady d l.entries l.by_end span (record { begin = span.end; lid = span.right; cost = pos 0; potential = total })
AreReady-lattice d l span total well all =
    record {
      order = well.by_end;
      sound = record { each = λ o h. (let e = well.entries o no_entry h in record { forward = e.forward; left = e.left; right = e.right; cost = e.cost }) };
      inside = record { each = λ o h. (let e = (well.entries o no_entry h).inside in let f = all.end in omega (arith, e, f)) };
      rising = record { rising = λ o h. (well.rising o (o + 1) no_entry (omega arith) h).begins; inside = λ o h. (let e = well.entries o no_entry h in let f = e.forward in let g = e.inside in let h = all.end in omega (arith, f, g, h)) };
      all = all_in d l span well all;
      key = (let b = all.begin in let e = all.end in let few = well.key.few in record { forward = omega (arith, b); short = omega (arith, e, few); left = all.left; right = all.right });
      last = record { begins = refl; right = refl; left = all.right; free = refl };
    }

-- where the verdict is yes, no path costs less
pub least-on_ok : {A : Type 0} (d : DataLists) (l : Lattice) (span : Span) (total : ℤ) (es : List Entry) (path : List ℕ) (potentials : List ℤ) (end : Target) (r : Result A CertFault) → IsWellFormed d l → es ≡ l.entries → end.potential ≡ total → IsVerdict (claimed d es span path potentials end) r → OnOk r ((other : List ℕ) → IsPathOver l.entries span other → total ≤ℤ path_cost d l.entries span other)
least-on_ok d l span total es path potentials end (Err fault) well same total_is verdict = tt
least-on_ok d l span total es path potentials end (Ok _) well same total_is certificate =
    λ other joined. least other joined
  where
    forward : AreForward es
    forward =
        subst (λ (xs : List Entry). AreForward xs) (sym same) (λ o inside. (well.entries o no_entry inside).forward)

    least : (other : List ℕ) → IsPathOver l.entries span other → total ≤ℤ path_cost d l.entries span other
    least other joined =
        let there : IsPath es span.begin span.end other = subst (λ (xs : List Entry). IsPath xs span.begin span.end other) (sym same) joined in
        let below = total-le (claimed d es span path potentials end) forward certificate.edges None other tt (omega arith) there in
        let cost : cost_between d es span.left span.right other ≡ cost_between d l.entries span.left span.right other = ap (λ (xs : List Entry). cost_between d xs span.left span.right other) same in
        omega (arith, ints, below, cost, total_is)
