use Rattle.std.proofs.Common.{◌≡◌, ◌++◌, drop}
use Rattle.std.specs.List.{flat_map}
use Rattle.std.specs.String.{string_bytes}
use Rattle.conversion_text.specs.Texts.{candidate_text}
use Rattle.conversion_text.proofs.writer.print_candidates.Given as goal

-- what is written, and then the candidates that are left, are all candidates
abbrev pub invariant-loop-candidate : goal.invariant-loop-candidate
invariant-loop-candidate l =
    string_bytes l.out ++ flat_map candidate_text (drop l.candidate-index l.candidates) ≡ string_bytes l.initial.out ++ flat_map candidate_text l.candidates
