-- No path costs less than the total of a certificate.
use Rattle.std.proofs.Common.{◌≡◌, sym, ap, ◌∙◌, subst, ℕ, ◌<◌, ◌≤◌, true, List, [], ◌∷◌, Option, Some, None, length, get_or, arith}
use Rattle.std.specs.Prelude.{pos, ◌+ℤ◌, ◌≤ℤ◌}
use Rattle.std.specs.List.{filter, range_with_len}
use Rattle.std.proofs.lemmas.Bool.Decides.{nat_tests}
use Rattle.std.proofs.lemmas.Int.{ints}
use Rattle.mz_base.specs.Data.{connection}
use Rattle.mz_base.specs.declared.lattice.Entry.{Entry}
use Rattle.mz_base.specs.declared.lattice.Span.{Span}
use Rattle.conversion_meaning.specs.Lattices.{entry}
use Rattle.conversion_meaning.specs.Paths.{IsPath, cost_between}
use Rattle.conversion_meaning.specs.Potentials.{is_in, ordinals_in}
use Rattle.conversion_meaning.specs.Certificates.{Claim, IsSide, AreMet, source_end, source_rid, source_potential, entry_in, potential}
use Rattle.conversion_meaning.proofs.Lists.{Among-range, Among-filter, place_of}

-- entries begin before they end
abbrev pub AreForward : List Entry → Type 0
AreForward es = (o : ℕ) → o < length es → (entry es o).begin < (entry es o).end

pub IsPath-forward : (es : List Entry) → AreForward es → (from to : ℕ) (path : List ℕ) → IsPath es from to path → from ≤ to
IsPath-forward es forward from to [] joined = omega arith
IsPath-forward es forward from to (o ∷ path) joined =
    let this : (entry es o).begin < (entry es o).end = forward o joined.0 in
    let rest : (entry es o).end ≤ to = IsPath-forward es forward (entry es o).end to path joined.2 in
    omega (arith, joined.1)

-- an entry of the span has a place among its ordinals
pub place_in : (es : List Entry) (span : Span) (o : ℕ) → o < length es → span.begin ≤ (entry es o).begin → (entry es o).end ≤ span.end → (k : ℕ) × (k < length (ordinals_in es span)) × ((d : ℕ) → get_or (ordinals_in es span) k d ≡ o)
unfolding ordinals_in
place_in es span o inside low high =
    let passes : is_in span (entry es o) ≡ true = grind (arith, nat_tests) in
    place_of o (filter (λ x. is_in span (entry es x)) (range_with_len 0 (length es))) (Among-filter (λ x. is_in span (entry es x)) o (range_with_len 0 (length es)) passes (Among-range 0 (length es) o (omega arith) (omega arith)))

-- The total is at most a source's potential and what leads from it to the end.
pub total-le : (c : Claim) → AreForward c.entries → AreMet c → (source : Option ℕ) (path : List ℕ) → IsSide c source → c.span.begin ≤ source_end c source → IsPath c.entries (source_end c source) c.span.end path → c.total ≤ℤ (source_potential c source +ℤ cost_between c.lists c.entries (source_rid c source) c.span.right path)
total-le c forward met source [] side low joined =
    let end : c.total ≤ℤ ((source_potential c source +ℤ connection c.lists (source_rid c source) c.span.right) +ℤ pos 0) = met source None (record { source_is = side; target_is = tt; touch = joined }) in
    omega (arith, ints)
total-le c forward met source (o ∷ path) side low joined =
    let es = c.entries in
    let this : (entry es o).begin < (entry es o).end = forward o joined.0 in
    let last : (entry es o).end ≤ c.span.end = IsPath-forward es forward (entry es o).end c.span.end path joined.2 in
    let place = place_in es c.span o joined.0 (omega (arith, joined.1)) last in
    let same : entry_in c place.0 ≡ entry es o = ap (entry es) (place.2 0) in
    let touch : source_end c source ≡ (entry_in c place.0).begin = sym joined.1 ∙ ap (λ (e : Entry). e.begin) (sym same) in
    let edge = met source (Some place.0) (record { source_is = side; target_is = place.1; touch = touch }) in
    let here : potential c place.0 ≤ℤ ((source_potential c source +ℤ connection c.lists (source_rid c source) (entry es o).lid) +ℤ (entry es o).cost) = subst (λ (e : Entry). potential c place.0 ≤ℤ ((source_potential c source +ℤ connection c.lists (source_rid c source) e.lid) +ℤ e.cost)) same edge in
    let rest_path : IsPath es (entry_in c place.0).end c.span.end path = subst (λ (e : Entry). IsPath es e.end c.span.end path) (sym same) joined.2 in
    let further : c.span.begin ≤ (entry_in c place.0).end = subst (λ (e : Entry). c.span.begin ≤ e.end) (sym same) (omega (arith, joined.1)) in
    let rest0 = total-le c forward met (Some place.0) path place.1 further rest_path in
    let rest : c.total ≤ℤ (potential c place.0 +ℤ cost_between c.lists es (entry es o).rid c.span.right path) = subst (λ (e : Entry). c.total ≤ℤ (potential c place.0 +ℤ cost_between c.lists es e.rid c.span.right path)) same rest0 in
    omega (arith, ints)
