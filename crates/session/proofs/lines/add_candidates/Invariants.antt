use Rattle.std.proofs.Common.{◌≡◌, ◌++◌, drop, map}
use Rattle.mz_base.specs.declared.lattice.Candidate.{Candidate}
use Rattle.session.proofs.lines.add_candidates.Given as goal

abbrev pub invariant-loop-candidate : goal.invariant-loop-candidate
invariant-loop-candidate l =
    l.rest.items ++ map (λ (candidate : Candidate). candidate.value) (drop l.candidate-index l.candidates) ≡ l.initial.rest.items ++ map (λ (candidate : Candidate). candidate.value) l.candidates
